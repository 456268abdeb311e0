pub mod Passes
pub mod Refusals
