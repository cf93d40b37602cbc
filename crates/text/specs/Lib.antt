pub mod Writing
pub mod Text
pub mod LratText
pub mod Pieces
pub mod Words
pub mod Seen
pub mod Ahead
