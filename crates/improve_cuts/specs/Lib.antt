pub mod ByCuts
pub mod Sessions
pub mod Vectors
