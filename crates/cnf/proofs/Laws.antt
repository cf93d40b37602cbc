-- The laws of this crate that other crates cite, from one place.
pub use Rattle.cnf.proofs.Assignments.{put_here, put_other}
pub use Rattle.cnf.proofs.Certificates.{certificate_sound, clause_kept, made, made_true, rest_kept}
pub use Rattle.cnf.proofs.ClauseLiterals.{Covers, any_member, apart-filter, codes_agree}
pub use Rattle.cnf.proofs.ClauseLiterals.{codes_differ, contains-filter, contains_same}
pub use Rattle.cnf.proofs.ClauseLiterals.{covered_unit, filter-contains, greatest-filter}
pub use Rattle.cnf.proofs.ClauseLiterals.{has_repeat-filter, is_tautology-filter}
pub use Rattle.cnf.proofs.ClauseLiterals.{literal_eq-sides, member-small, not-complement, not_not}
pub use Rattle.cnf.proofs.ClauseLiterals.{value-filter, without-contains}
pub use Rattle.cnf.proofs.Hints.{GroupHasIds, more_same, refutes_after, unit_same}
pub use Rattle.cnf.proofs.Judgement.{extends_own}
pub use Rattle.cnf.proofs.Laid.{IsCompacting, Layout, compacting_all, compacting_dead}
pub use Rattle.cnf.proofs.Laid.{compacting_live, laid_le, laid_push, laid_set, laid_within}
pub use Rattle.cnf.proofs.Laid.{moved_within, pieces-append, pieces_dead, pieces_live, pieces_push}
pub use Rattle.cnf.proofs.Laid.{range-append, range-appended}
pub use Rattle.cnf.proofs.Lists.{all_append, all_both, all_left, all_mapped, all_parts, all_push}
pub use Rattle.cnf.proofs.Lists.{all_right, all_weaker, below_more, contains_one}
pub use Rattle.cnf.proofs.Literals.{all_at, all_from}
pub use Rattle.cnf.proofs.Literals.{at_contains, contains-push, index_below, index_same}
pub use Rattle.cnf.proofs.Literals.{literal_eq-complement, literal_eq-refl, literal_eq-swapped}
pub use Rattle.cnf.proofs.Literals.{literal_eq_ne, literal_ne, negation_twice, same_variable}
pub use Rattle.cnf.proofs.Marking.{marked_one, marked_subset, none_marked, place_within}
pub use Rattle.cnf.proofs.Marking.{places_each, places_within}
pub use Rattle.cnf.proofs.Members.{absent_above, contains-append, contains-negations}
pub use Rattle.cnf.proofs.Members.{contains_back, contains_front, literal_eq-negations}
pub use Rattle.cnf.proofs.Members.{contains_negation, member_pushed, subset_at, subset_from}
pub use Rattle.cnf.proofs.Numbers.{numbered_past, one_if_le, same_number, tests_agree}
pub use Rattle.cnf.proofs.Complements.{contained_true, tautologies-more, tautologies_true}
pub use Rattle.cnf.proofs.Repeats.{absent_own, repeat_distinct, repeat_push, repeats-more}
pub use Rattle.cnf.proofs.Results.{on_err_at, on_ok_at}
pub use Rattle.cnf.proofs.Rising.{rises_least, rises_weaker, rising_from}
pub use Rattle.cnf.proofs.Sound.{AllHold, literal_eq-true, negation-value, rup_holds}
pub use Rattle.cnf.proofs.Sound.{value-negation}
