pub mod Pairs
pub mod Vectors
