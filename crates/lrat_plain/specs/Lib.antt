pub mod Faults
pub mod Names
pub mod Plain
pub mod Steps
pub mod Runs
pub mod Law
