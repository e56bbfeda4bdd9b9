pub mod Reading
pub mod Range
pub mod Writing
pub mod Text
pub mod Setting
pub mod Answers
