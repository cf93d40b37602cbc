mod Sums
mod Choice
mod Small
mod Variables
mod InEachProfile
mod Queue
mod Digits
mod Whole
pub mod Laws
