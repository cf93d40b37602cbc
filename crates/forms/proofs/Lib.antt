mod Repeating
mod Stamps
mod FactSizes
mod Staging
mod MassLaws
mod Knowing
pub mod NextOutput
mod Withins
mod Widths
mod NewCount
mod MadeClauses
mod Weighing
mod FormLines
pub mod Laws
