pub mod Far
pub mod Tables
pub mod Fill
pub mod Stages
pub mod Passes
pub mod Refusals
pub mod Theorems
pub mod Examples
