pub mod Moved
pub mod Over
pub mod Ranges
pub mod Signs
pub mod Order
pub mod Days
pub mod Lengths
pub mod Numbers
pub mod Samples
pub mod Shifts
mod Units
pub mod Origins
pub mod Examples
