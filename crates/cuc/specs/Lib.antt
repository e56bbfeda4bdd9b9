pub mod Cuc
pub mod Inner
