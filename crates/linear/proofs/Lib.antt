pub mod Places
pub mod Steps
pub mod Answers
pub mod Examples
