pub mod Noise
pub mod Verdict
