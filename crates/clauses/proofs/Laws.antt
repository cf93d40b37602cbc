-- The laws of this crate that other crates cite, from one place.
pub use Rattle.clauses.proofs.LiveClauses.{all_live, contains_live, live_all, live_map}
pub use Rattle.clauses.proofs.Lookup.{renamed_at, rises_pairs}
pub use Rattle.clauses.proofs.Moves.{came, moved_all, named_listed, new_rise, renamed_place}
pub use Rattle.clauses.proofs.Moves.{same_clause, same_origin, stands, went}
pub use Rattle.clauses.proofs.Places.{clause_cases, clause_gone, clause_kept, clause_left}
pub use Rattle.clauses.proofs.Places.{clause_new, clause_old, clause_other, live_within}
pub use Rattle.clauses.proofs.Fixpoint.{not_refuted}
pub use Rattle.clauses.proofs.Renaming.{renamed_together}
pub use Rattle.clauses.proofs.Zipped.{get_or-zipped, length-zipped, zipped-append, zipped-replicate}
pub use Rattle.clauses.proofs.Zipped.{zipped-set, zipped-set_first, zipped-take}
