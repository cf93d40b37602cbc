mod Logs
mod Moving
mod Named
mod Naming
mod Together
pub mod Laws
