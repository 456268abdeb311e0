-- What the proofs of the functions share.
pub mod Power
pub mod Whole
pub mod Rounds
pub mod Value
pub mod Square
pub mod Bits
pub mod Units
pub mod Decode
pub mod Wide
pub mod Meaning
