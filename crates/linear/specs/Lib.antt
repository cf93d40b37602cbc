pub mod Linear
pub mod Costs
pub mod Terms
pub mod Bounds
pub mod Kept
pub mod Vectors
