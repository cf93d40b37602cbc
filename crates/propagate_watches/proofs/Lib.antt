mod Attachments
mod Zipped
mod Moving
pub mod Laws
