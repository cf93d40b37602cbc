mod Built
mod Counted
mod Lanes
mod Lying
mod Resolve
mod Writing
pub mod Laws
