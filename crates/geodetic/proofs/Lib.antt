pub mod Fields
pub mod Numbers
pub mod Total
pub mod Sized
