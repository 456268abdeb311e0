pub mod Normal
pub mod Step
pub mod Answers
