pub mod Window
pub mod Seconds
pub mod Among
