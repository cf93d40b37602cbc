pub mod Elimination
pub mod Ending
pub mod Simplifier
pub mod State
pub mod Subsuming
pub mod Units
pub mod Variables
