-- The laws of this crate that other crates cite, from one place.
pub use Rattle.wcnf.proofs.Lines.{same_Ok}
pub use Rattle.wcnf.proofs.Texts.{reading_is_right, reads_one}
