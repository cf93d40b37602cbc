-- The laws of this crate that other crates cite, from one place.
pub use Rattle.analyze.proofs.Levels.{depth_follow, false_below, is_new}
pub use Rattle.analyze.proofs.Levels.{kept_more, learned_fixpoint, level_is, low_kept, open_below}
pub use Rattle.analyze.proofs.Levels.{two_open}
pub use Rattle.analyze.proofs.Reasoning.{no_reason, reason_at}
pub use Rattle.analyze.proofs.Collecting.{tail_is}
pub use Rattle.analyze.proofs.Decided.{decided_zero, decided_reasons, decided_deep, decided_all}
pub use Rattle.analyze.proofs.Decided.{by_choice}
