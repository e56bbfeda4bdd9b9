pub mod Fit
pub mod Inner
