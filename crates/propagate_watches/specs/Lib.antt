pub mod Pool
pub mod Table
pub mod TableLayout
pub mod Doomed
pub mod Renames
pub mod Vectors
