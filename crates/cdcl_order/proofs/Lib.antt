pub mod Laws
mod Seen
mod Stamps
mod WorseHalf
