mod Comes
mod Ends
