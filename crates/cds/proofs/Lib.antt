pub mod Laws
pub mod Moved
pub mod Ticks
pub mod Stores
pub mod Trips
pub mod Promises
pub mod Known
