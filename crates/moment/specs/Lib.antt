pub mod Moment
pub mod Decimal
