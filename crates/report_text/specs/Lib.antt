pub mod Number
pub mod Sentences
pub mod Fitted
