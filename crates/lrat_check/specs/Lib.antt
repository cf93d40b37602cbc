pub mod Checks
pub mod Verdict
pub mod Vectors
pub mod Pieces
pub mod Left
pub mod Stopping
pub mod Lower
pub mod Cuts
