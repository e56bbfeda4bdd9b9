pub mod Forms
pub mod Tags
pub mod Inner
pub mod Shortening
pub mod Fields
