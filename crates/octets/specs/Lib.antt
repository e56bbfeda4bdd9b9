pub mod Places
pub mod Rules
pub mod Counts
pub mod Stores
pub mod Powers
pub mod Writes
