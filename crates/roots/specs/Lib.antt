-- The words of the crate's contracts.
pub mod Power
pub mod Root
pub mod Cube
pub mod Nearest
pub mod Parts
pub mod Tests
