pub mod Tests
pub mod Numbers
pub mod Lists
pub mod Signed
pub mod Floats
pub mod Places
