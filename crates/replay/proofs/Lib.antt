-- What the proofs of the functions share.
pub mod Counting
pub mod Reporting
