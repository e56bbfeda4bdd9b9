pub mod Fraction
pub mod Rate
pub mod Run
pub mod Answers
pub mod Steps
pub mod Inner
