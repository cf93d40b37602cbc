pub mod Together
pub mod Vectors
pub mod Work
