pub mod Sums
pub mod Moves
pub mod Places
pub mod Falsified
pub mod Values
pub mod Agreeing
pub mod Laws
