pub mod Laws
pub mod Lift
pub mod Builtin
