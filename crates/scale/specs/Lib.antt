pub mod Time
pub mod Answers
pub mod Latest
pub mod Inner
