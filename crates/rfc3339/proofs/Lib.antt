pub mod Stamps
pub mod Examples
pub mod Grammar
