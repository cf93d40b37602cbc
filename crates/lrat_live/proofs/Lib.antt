mod Listed
mod SpanLaws
mod StartLaws
mod PushLaws
mod WindowLaws
mod MovedLaws
mod LiveLaws
mod NearLaws
mod Chains
mod Table
mod Clauses
mod Tables
mod Lookup
mod Moves
mod PageLaws
mod CountLaws
pub mod Laws
