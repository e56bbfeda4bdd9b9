-- the laws that the crates above cite
pub mod Moments
pub mod Room
pub mod Seconds
pub mod Ticks
pub mod Members
pub mod Maps
pub mod Once
pub mod Filled
