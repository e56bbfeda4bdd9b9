pub mod Fields
pub mod Dates
pub mod Days
pub mod Search
pub mod Onward
pub mod Once
pub mod Known
