mod Defining
mod Definitions
mod Leading
mod Meetings
mod Pairing
mod Replacing
mod Staging
mod Together
pub mod Laws
