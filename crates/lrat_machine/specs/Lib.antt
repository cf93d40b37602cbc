pub mod Assumed
pub mod Machine
pub mod Proofs
pub mod Rup
pub mod Steps
pub mod Vectors
pub mod Verdict
