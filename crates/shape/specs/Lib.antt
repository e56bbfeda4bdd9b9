pub mod Cells
pub mod Quoted
pub mod Shapes
pub mod Parts
