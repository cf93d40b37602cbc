-- The laws of this crate that other crates cite, from one place.
pub use Rattle.cnf.proofs.Laws.{contains-push, negation_twice}
pub use Rattle.propagate.proofs.Added.{added_live, fits_added, new_is_detached}
pub use Rattle.propagate.proofs.Compacting.{reasons_listed}
pub use Rattle.propagate.proofs.FitsLaws.{fits_local}
pub use Rattle.propagate.proofs.Looking.{attached_within, false_value, not_false_value, within_all}
pub use Rattle.propagate.proofs.Looking.{within_variable}
pub use Rattle.propagate.proofs.Subsets.{have_places}
pub use Rattle.propagate_trail.proofs.Laws.{NoTautology, contains_at, contains_take, depth-cons}
pub use Rattle.propagate_trail.proofs.Laws.{depth_grows, depth_named, depth_push, depth_step}
pub use Rattle.propagate_trail.proofs.Laws.{in_kept, justified_same, kept_all, kept_kept, kept_low}
pub use Rattle.propagate_trail.proofs.Laws.{kept_named, kept_prefix, kept_push, level_from-le}
pub use Rattle.propagate_trail.proofs.Laws.{literals-append, no_tautology, open_literal, same_swap}
pub use Rattle.propagate_trail.proofs.Laws.{trail_listed}
