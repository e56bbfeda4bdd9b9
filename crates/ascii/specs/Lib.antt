pub mod Shapes
pub mod Ascii
pub mod Inner
