pub mod Flat
pub mod Removals
pub mod Stack
pub mod Vectors
