mod Extended
mod Needed
mod StackPieces
pub mod Laws
