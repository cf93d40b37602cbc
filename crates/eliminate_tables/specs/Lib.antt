pub mod Against
pub mod Bins
pub mod Resolvents
pub mod Rows
pub mod Schedule
pub mod Signatures
pub mod Vectors
pub mod Worthwhile
