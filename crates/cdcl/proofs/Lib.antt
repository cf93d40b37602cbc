mod Satisfied
mod FirstNames
mod FirstRun
mod Answered
mod GivenClause
mod Rounds
mod Guiding
mod Apart
mod Frozen
mod Solved
pub mod Laws
