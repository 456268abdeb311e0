pub mod Bounds
pub mod Root
pub mod Sine
pub mod Size
