pub mod Listed
pub mod Pages
pub mod Counts
pub mod Chains
pub mod Table
pub mod Near
