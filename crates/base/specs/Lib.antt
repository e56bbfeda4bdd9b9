pub mod Refusals
pub mod Outcome
pub mod Parts
pub mod Seats
pub mod Said
