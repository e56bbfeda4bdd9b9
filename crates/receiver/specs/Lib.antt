pub mod Fields
pub mod Receiver
pub mod Answers
pub mod Runs
pub mod Inner
