pub mod Printing
pub mod Codes
pub mod Faults
pub mod Told
pub mod Answering
pub mod Best
