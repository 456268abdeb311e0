pub mod Lists
pub mod Gathers
pub mod Sets
pub mod Reports
pub mod AnyOrder
