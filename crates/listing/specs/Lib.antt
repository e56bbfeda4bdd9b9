pub mod Records
pub mod CucTag
pub mod Ends
pub mod Inner
pub mod AsciiTag
