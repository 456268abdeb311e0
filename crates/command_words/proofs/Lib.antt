pub mod Counted
pub mod Taken
pub mod AsBefore
pub mod Commas
pub mod Steps
