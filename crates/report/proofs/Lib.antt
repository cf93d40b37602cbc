pub mod Searched
pub mod Ends
pub mod SeenAs
pub mod SearchedByCuts
pub mod AtOnce
pub mod CutsTexts
pub mod CutsEnds
mod Dearer
