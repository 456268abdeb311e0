pub mod Laws
pub mod Steps
pub mod Behind
pub mod Answers
