pub mod Fives
pub mod Findings
