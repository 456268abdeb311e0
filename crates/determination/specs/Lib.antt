pub mod Demand
pub mod Calls
pub mod Table
