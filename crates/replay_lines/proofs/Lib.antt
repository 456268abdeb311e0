pub mod Packed
pub mod Exact
pub mod Examples
