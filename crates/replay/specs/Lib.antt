-- The words of the crate's contracts.
pub mod Count
pub mod Report
