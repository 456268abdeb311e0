pub mod Samples
pub mod Residuals
pub mod Answers
