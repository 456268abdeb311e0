pub mod Sets
pub mod Places
pub mod Demand
pub mod Calls
pub mod Table
