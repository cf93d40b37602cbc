mod Flat
mod LiveClauses
mod Lookup
mod Moves
mod Places
mod Fixpoint
mod Reading
mod Renaming
mod Stored
mod Zipped
pub mod Laws
