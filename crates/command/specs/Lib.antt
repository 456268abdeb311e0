pub mod Gather
pub mod Report
