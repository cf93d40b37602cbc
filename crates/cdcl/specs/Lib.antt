pub mod Solving
pub mod Turns
pub mod Outcomes
pub mod Guiding
pub mod Courses
mod Vectors
