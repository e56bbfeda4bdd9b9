pub mod Columns
pub mod Turns
pub mod States
pub mod Known
