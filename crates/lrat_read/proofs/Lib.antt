mod Tokens
mod Lines
mod Scan
mod Places
mod Ends
mod FactLaws
mod IdLaws
mod WordLaws
mod WordSpelling
mod Prefixes
mod PlainLaws
mod PlainLoops
mod BatchLaws
mod BlankLaws
pub mod Laws
