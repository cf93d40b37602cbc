mod Sheets
mod Words
pub mod Laws
