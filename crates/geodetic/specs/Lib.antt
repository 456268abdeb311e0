pub mod Ellipsoid
pub mod Line
pub mod Lines
