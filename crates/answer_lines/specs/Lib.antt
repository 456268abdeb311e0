-- The words of the crate's contracts.
pub mod Word
pub mod Lines
