pub mod Laws
pub mod Latest
pub mod Fractions
pub mod Promises
pub mod Once
pub mod Known
