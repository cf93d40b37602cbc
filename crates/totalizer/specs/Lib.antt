pub mod Stages
pub mod Vectors
pub mod Laid
pub mod TreeCode
pub mod Grown
