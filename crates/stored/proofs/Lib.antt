pub mod Words
pub mod Signs
pub mod Chunks
pub mod Whole
pub mod Theorems
