mod Lines
mod Headers
mod Texts
mod Gathered
mod Drafting
mod FromLines
mod ParserLaws
mod WithinLimits
pub mod Laws
