pub mod Running
pub mod Seen
pub mod ByCuts
pub mod Earlier
