pub mod Constant
pub mod Ops
pub mod Trig
pub mod Log
