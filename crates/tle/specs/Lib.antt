pub mod Elements
pub mod Lines
pub mod Answer
pub mod Printed
pub mod Example
