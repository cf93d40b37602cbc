-- The laws of this crate that other crates cite, from one place.
pub use Rattle.propagate_trail.proofs.Kept.{contains_at, contains_take, contains_take_more, in_kept}
pub use Rattle.propagate_trail.proofs.Kept.{kept_above}
pub use Rattle.propagate_trail.proofs.Kept.{kept_kept, kept_low, kept_prefix, literals-append}
pub use Rattle.propagate_trail.proofs.Kept.{past_kept}
pub use Rattle.propagate_trail.proofs.Levels.{depth_grows, depth_step, kept_all, kept_push}
pub use Rattle.propagate_trail.proofs.Levels.{level_from-le}
pub use Rattle.propagate_trail.proofs.Literals.{index-within}
pub use Rattle.propagate_trail.proofs.Naming.{depth_named, kept_named, literals_named}
pub use Rattle.propagate_trail.proofs.Naming.{named_assigned, trail_listed}
pub use Rattle.propagate_trail.proofs.Reasons.{NoTautology, justified_same, no_tautology}
pub use Rattle.propagate_trail.proofs.Reasons.{open_literal, reasons_front, reasons_push, same_swap}
pub use Rattle.propagate_trail.proofs.Trails.{depth-cons, depth_push, made, open_at}
