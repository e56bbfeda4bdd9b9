pub mod Pairs
pub mod Parts
pub mod Wholes
pub mod Rungs
pub mod Moved
pub mod Turns
pub mod Promises
pub mod Known
