mod Sums
mod Laid
mod Staging
mod Counting
mod Growing
mod Apart
mod Variables
mod Unary
mod Meaning
mod Extending
mod Outputs
pub mod Laws
