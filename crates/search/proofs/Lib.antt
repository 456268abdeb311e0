pub mod Draws
pub mod Steps
pub mod Gradient
pub mod Runs
pub mod Examples
