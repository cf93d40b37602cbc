-- The laws of this crate that other crates cite, from one place.
pub use Rattle.improve_found.proofs.Costs.{cost_of_solution, cost_small, falling_more}
pub use Rattle.improve_found.proofs.Shown.{shown_none, shown_then, shown_after, shown_same}
pub use Rattle.improve_found.proofs.Shown.{shown_told, shown_failed, shown_more}
pub use Rattle.improve_found.proofs.Told.{told_each, told_fall}
