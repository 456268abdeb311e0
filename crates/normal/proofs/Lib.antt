pub mod Places
pub mod Moves
pub mod Same
