pub mod NoLine
pub mod CostLines
pub mod ResultTexts
pub mod Answered
mod BestTexts
