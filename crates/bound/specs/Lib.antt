pub mod Bound
pub mod Weighted
pub mod Adding
pub mod Vectors
pub mod Encoding
