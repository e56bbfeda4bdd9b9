pub mod Places
pub mod Pastes
pub mod Turns
pub mod Counts
pub mod Moved
pub mod Writes
pub mod Once
pub mod Known
