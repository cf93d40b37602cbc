pub mod Network
pub mod Parts
pub mod Vectors
