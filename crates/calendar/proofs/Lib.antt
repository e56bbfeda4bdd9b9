pub mod Years
pub mod Rows
pub mod Dates
pub mod Numbers
pub mod Order
pub mod Promises
