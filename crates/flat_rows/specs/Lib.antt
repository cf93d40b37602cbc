pub mod Ownership
pub mod Block
pub mod Rows
pub mod RowLayout
pub mod Vectors
