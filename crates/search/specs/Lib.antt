pub mod Sum
pub mod Step
pub mod Search
