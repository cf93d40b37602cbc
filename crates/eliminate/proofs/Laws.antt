-- The laws of this crate that other crates cite, from one place.
pub use Rattle.eliminate_pairs.proofs.Laws.{wider}
