pub mod Bools
pub mod Signed
pub mod Steps
pub mod Ladders
pub mod Once
pub mod Passed
