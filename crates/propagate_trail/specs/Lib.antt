pub mod Trail
pub mod Tables
pub mod Vardata
pub mod Truth
pub mod Renames
pub mod Vectors
