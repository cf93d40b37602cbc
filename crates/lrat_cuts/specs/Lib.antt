pub mod Cuts
pub mod Machine
pub mod Pieces
pub mod Vectors
pub mod LastForm
pub mod Law
pub mod Verdict
