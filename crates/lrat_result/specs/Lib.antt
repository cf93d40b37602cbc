pub mod Result
pub mod Report
pub mod Words
pub mod Vectors
