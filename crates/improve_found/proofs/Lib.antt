mod Told
mod BitLaws
mod Costs
mod Shown
pub mod Laws
