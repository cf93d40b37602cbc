pub mod Filling
pub mod Marks
pub mod Sharing
mod RowsLaid
mod Rewriting
pub mod Laws
