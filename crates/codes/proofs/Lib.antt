pub mod Fronts
pub mod Fields
pub mod Promises
pub mod Texts
pub mod Range
pub mod Once
