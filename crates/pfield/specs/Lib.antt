pub mod PField
pub mod Inner
