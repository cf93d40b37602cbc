pub mod FileId
pub mod Files
pub mod Keeper
pub mod ResumedFile
pub mod StandardOutput
pub mod Vectors
pub mod WholeFile
