pub mod Naming
pub mod Inner
