pub mod Matching
pub mod Digits
pub mod Covered
pub mod OneDigit
pub mod Blanks
pub mod ReadBack
pub mod Example
