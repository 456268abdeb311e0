pub mod Jacobian
pub mod Advance
