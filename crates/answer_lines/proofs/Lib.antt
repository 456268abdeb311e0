-- What the proofs of the functions share.
pub mod Digits
pub mod Meaning
pub mod Laws
pub mod Sized
