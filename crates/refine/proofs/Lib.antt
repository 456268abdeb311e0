pub mod Columns
pub mod Table
pub mod Advances
