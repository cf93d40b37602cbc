pub mod Checking
pub mod Faults
