pub mod Binary
pub mod Text
