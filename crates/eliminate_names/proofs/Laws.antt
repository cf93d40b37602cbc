-- The laws of this crate that other crates cite, from one place.
pub use Rattle.lrat_log.proofs.Laws.{when_err}
pub use Rattle.eliminate_names.proofs.Logs.{log_steps_more}
pub use Rattle.eliminate_names.proofs.Moving.{learned-push, open_deleted, stays_added}
pub use Rattle.eliminate_names.proofs.Moving.{work_added}
pub use Rattle.eliminate_names.proofs.Moving.{work_deleted}
pub use Rattle.eliminate_names.proofs.Naming.{name-last, name-push, named_added, number_at}
pub use Rattle.eliminate_names.proofs.Together.{AreTogether, together_fit, was_there}
pub use Rattle.eliminate_names.proofs.Together.{work_together}
