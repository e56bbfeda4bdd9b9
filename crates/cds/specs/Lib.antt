pub mod Cds
pub mod Inner
