pub mod Answer
pub mod Split
pub mod Says
pub mod Runs
