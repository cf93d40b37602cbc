mod Comments
mod Counts
mod Explained
mod Listing
