pub mod Order
pub mod Books
pub mod Sets
pub mod Demand
