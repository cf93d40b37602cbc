pub mod Wcnf
pub mod Heads
pub mod Drafts
pub mod Reading
pub mod Parsing
pub mod ReadingVectors
