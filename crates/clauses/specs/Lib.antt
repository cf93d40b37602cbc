pub mod Within
pub mod Slots
pub mod Moved
pub mod Zipped
pub mod Heads
pub mod Vectors
pub mod Packed
