-- The laws of this crate that other crates cite, from one place.
pub use Rattle.eliminate_pairs.proofs.Staging.{wider}
pub use Rattle.eliminate_pairs.proofs.Together.{fit_together, stage_together}
