pub mod Solutions
pub mod Progress
pub mod Watch
