pub mod Sorts
pub mod Orders
pub mod Arranges
pub mod Sets
pub mod Picks
