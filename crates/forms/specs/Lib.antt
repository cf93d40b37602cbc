pub mod Forms
pub mod Stamped
pub mod Within
pub mod Kept
pub mod Answers
pub mod Vectors
