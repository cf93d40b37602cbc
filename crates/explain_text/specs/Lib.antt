pub mod Mending
pub mod Sheets
pub mod Showing
pub mod Vectors
