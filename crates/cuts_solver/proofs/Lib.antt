mod Solutions
mod Working
mod Ended
mod Written
mod Searching
mod Skipping
mod MadeLines
