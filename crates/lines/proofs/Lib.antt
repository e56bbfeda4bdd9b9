mod Fills
mod Finds
mod Texts
mod Fates
mod Going
pub mod Covered
pub mod Promises
pub mod Once
pub mod Known
