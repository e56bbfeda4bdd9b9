pub mod States
pub mod Once
