pub mod Pca
pub mod Sums
pub mod Turns
pub mod Answers
