mod Literals
mod Trails
mod Undoing
mod Tables
mod Levels
mod Kept
mod Reasons
mod VarTables
mod Naming
pub mod Laws
