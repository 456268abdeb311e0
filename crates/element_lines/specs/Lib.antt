pub mod Columns
pub mod Parts
pub mod Reading
pub mod Fields
pub mod Written
