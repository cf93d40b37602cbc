-- The tables of a search before its first move.
use Rattle.std.proofs.Common.{◌≡◌, ℕ, ◌<◌, false, List, [], length, get_or, sym, ◌∙◌, ap}
use Rattle.std.proofs.Common.{subst, arith, zero-add}
use Rattle.std.specs.Prelude.{All}
use Rattle.std.specs.List.{enumerate_from}
use Rattle.std.proofs.lemmas.Bool.{both_ways}
use Rattle.std.proofs.lemmas.List.{get_or_default}
use Rattle.std.proofs.lemmas.List.FromFn.{get_or-enumerate_from, length-enumerate_from}
use Rattle.std.proofs.lemmas.Option.{same_Some}
use Rattle.cnf.specs.Lrat.{IsId}
use Rattle.clauses.specs.Slots.{Slots}
use Rattle.propagate.specs.Watches.{EngineState, is_attached}
use Rattle.propagate.specs.Fits.{Fits, IsWithin}
use Rattle.lrat_log.specs.declared.lines.Name.{Name}
use Rattle.lrat_log.specs.declared.lines.Name.TheVariants.{Formula}
use Rattle.lrat_log.specs.Log.{number_in}
use Rattle.cdcl_search.specs.Invariant.{name_at}
use Rattle.cdcl_search.specs.Starts.{AreAttachedBelow, AreWithin, IsLiveWithin}
use Rattle.cdcl_search.proofs.Places.{live_within}

-- Names by place, which the stack lists with their places.

pub listed_names : (names : List Name)
    → All (λ n. name_at names n.0 ≡ n.1) (enumerate_from 0 names)
listed_names names i d lt =
    let within : i < length names = omega (arith, length-enumerate_from 0 names) in
    subst (λ (x : ℕ × Name). name_at names x.0 ≡ x.1)
    (sym (get_or-enumerate_from 0 names i d within))
    (ap (name_at names) (zero-add i) ∙ get_or_default names i _ d.1 within)

pub listed_numbers : (names : List Name)
    → All (λ n. IsId (number_in n.1)) (enumerate_from 0 names)
    → All (λ n. IsId (number_in n)) names
listed_numbers names all i d lt =
    subst (λ (x : ℕ × Name). IsId (number_in x.1)) (get_or-enumerate_from 0 names i (0, d) lt)
    (all i (0, d) (omega (arith, length-enumerate_from 0 names)))

-- a list of all places has each live clause
pub listed_within : (names : List Name) (slots : Slots) (variables : ℕ)
    → length names ≡ length slots
    → All (λ n. IsLiveWithin slots variables n.0) (enumerate_from 0 names)
    → AreWithin slots variables
listed_within names slots variables long all r c e =
    let within : r < length names = omega (arith, live_within slots r c e) in
    let d : ℕ × Name = (0, Formula 0) in
    let at : (get_or (enumerate_from 0 names) r d).0 ≡ r =
    ap (λ (x : ℕ × Name). x.0) (get_or-enumerate_from 0 names r d within) ∙ zero-add r in
    let w : IsLiveWithin slots variables r =
    subst (IsLiveWithin slots variables) at
    (all r d (omega (arith, length-enumerate_from 0 names))) in
    subst (IsWithin variables) (same_Some w.clause c (sym w.live ∙ e)) w.within

-- Clauses attached in turn.

pub attached_none : (e : EngineState) (slots : Slots) (variables : ℕ) → Fits e slots
    → (e.variables ≡ variables) × (e.trail ≡ []) × (e.failed ≡ false)
    → ((r : ℕ) → is_attached e r ≡ false) → AreAttachedBelow e slots variables 0
attached_none e slots variables fits same none = record {
  fits = fits;
  trail = same.1;
  variables_are = same.0;
  works = same.2;
  attached = λ r lt live. absurd (omega arith);
  only = λ r on. absurd (both_ways (is_attached e r) (none r) on);
}
