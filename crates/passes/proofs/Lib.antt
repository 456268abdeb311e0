pub mod Texts
pub mod Times
pub mod Cuts
pub mod Names
pub mod Files
pub mod Answers
pub mod Examples
pub mod Calling
