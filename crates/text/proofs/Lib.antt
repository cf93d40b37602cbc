mod Numbers
mod Passing
mod Zeros
mod FirstPieces
mod CappedNumbers
mod DigitCounts
mod Items
mod AheadLaws
mod Feeds
mod Cuts
pub mod Laws
