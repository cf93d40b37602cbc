pub mod Holdings
pub mod Reasons
pub mod Vectors
