mod Walk
mod Members
mod AssumedLaws
mod Candidates
mod Steps
mod Alike
mod Effects
mod Groups
mod Negations
mod Base
mod Proofs
mod Whole
mod Judged
mod RupLaws
pub mod Laws
