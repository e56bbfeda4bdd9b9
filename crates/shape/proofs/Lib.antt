pub mod Tests
pub mod Shapes
pub mod Starts
pub mod Pieces
