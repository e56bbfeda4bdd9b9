pub mod Table
pub mod Builtin
pub mod Utc
pub mod Rule
pub mod Inner
