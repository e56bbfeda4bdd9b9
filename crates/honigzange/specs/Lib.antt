pub mod Cells
pub mod Calls
