-- The laws of this crate that other crates cite, from one place.
pub use Rattle.cdcl.proofs.Answered.{not_refuted}
pub use Rattle.cdcl.proofs.Guiding.{paid_axiom, paid_join, paid_nothing}
