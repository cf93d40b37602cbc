-- Lines that make counts, outputs of counts and groups.
use Rattle.std.proofs.Common.{◌≡◌, ℕ, zero, suc, ◌+◌, ◌-◌, ◌<◌, Bool, true, false, not, ◌&&◌, ◌||◌}
use Rattle.std.proofs.Common.{nat_le, pos, List, [], ◌∷◌, ◌++◌, Some, None, Ok, length, set}
use Rattle.std.proofs.Common.{slice_get, refl, sym, subst, arith}
use Rattle.std.proofs.lemmas.Bool.{and_parts, leb-true, leb-false}
use Rattle.cnf.specs.Literal.{Assignment, Literal}
use Rattle.cnf.specs.Clause.{greatest_variable, has_repeat, is_tautology}
use Rattle.cnf.specs.Problem.{Problem}
use Rattle.cnf.specs.Instance.{IsInstance}
use Rattle.cnf.specs.Refute.{Clauses}
use Rattle.cnf.proofs.Laws.{AllHold}
use Rattle.totalizer.specs.Stages.{Tree, Staged, outputs_of, size_of, stage, totalizer_of}
use Rattle.linear.specs.Costs.{widened}
use Rattle.forms.specs.Forms.{Forms, Made, Count, Group, are_excluded, are_known, count_line}
use Rattle.forms.specs.Forms.{group_line, last_of, more_line, pairs_of, plus}
use Rattle.forms.specs.declared.faults.TheConstants.{MOST_COUNT_CLAUSES}
use Rattle.lrat_cuts.proofs.LawMeaning.{IsCheap}
use Rattle.lrat_cuts.proofs.LawForms.{Holds}
use Rattle.lrat_cuts.proofs.LawCounts.{HasVariables, count_back, count_holds, count_true}
use Rattle.lrat_cuts.proofs.LawMore.{more_back, more_holds, more_true}
use Rattle.lrat_cuts.proofs.LawGroups.{excluded_low, group_back, group_holds}
use Rattle.lrat_cuts.proofs.LawFacts.{Keeps}
use Rattle.lrat_cuts.proofs.LawResults.{err_ok, ok_same}
use Rattle.lrat_cuts.proofs.LawState.{MadeKeeps}

are_off : (a b : Bool) → not (a || b) ≡ true → (a ≡ false) × (b ≡ false)
are_off false false e = (refl, refl)
are_off false true e = absurd (cc)
are_off true b e = absurd (cc)

known_variables : (s : Forms) (c : List Literal) → are_known s c ≡ true
    → HasVariables s.variables c
known_variables s c e =
    let parts = and_parts (nat_le (greatest_variable c) s.variables)
    (not (has_repeat c || is_tautology c)) e in
    let off = are_off (has_repeat c) (is_tautology c) parts.1 in
    record {
      once = off.0;
      open_one = off.1;
      greatest = leb-true (greatest_variable c) s.variables parts.0;
    }

-- what a count leaves
abbrev made_count : Forms → List Literal → Staged → Made
made_count s inputs g = record {
  forms = record s {
    variables = g.fresh - 1;
    form = widened g.fresh s.form;
    made = s.made + length g.clauses;
    numbered = s.numbered ++ Count inputs g.tree 0 ∷ [];
  };
  clauses = g.clauses;
}

count_line_is : (h : ℕ) (inputs : List Literal) (s : Forms) (m : Made)
    → count_line h inputs s ≡ Ok m
    → ((are_known s inputs && nat_le 1 h && nat_le h (length inputs)) ≡ true)
    × (m ≡ made_count s inputs (totalizer_of h (s.variables + 1) inputs))
count_line_is h inputs s m e =
    let test = are_known s inputs && nat_le 1 h && nat_le h (length inputs) in
    let g = totalizer_of h (s.variables + 1) inputs in
    let few = nat_le (s.made + length g.clauses) MOST_COUNT_CLAUSES in
    elim test as (λ b. test ≡ b → (test ≡ true) × (m ≡ made_count s inputs g)) [
      | true ↦ λ q. elim few as (λ b. few ≡ b → (test ≡ true) × (m ≡ made_count s inputs g)) [
        | true ↦ λ r. (q, sym (ok_same _ m (rw (q, r) at e)))
        | false ↦ λ r. absurd (err_ok _ m (rw (q, r) at e))
      ] refl
      | false ↦ λ q. absurd (err_ok _ m (rw q at e))
    ] refl

pub count_keeps : (p : Problem) → IsInstance p → (k h : ℕ) (inputs : List Literal) (s : Forms)
    (m : Made) → Holds p k s → count_line h inputs s ≡ Ok m → MadeKeeps p k s m
count_keeps p i k h inputs s m holds e =
    let is = count_line_is h inputs s m e in
    let known = are_known s inputs in
    let third = and_parts (known && nat_le 1 h) (nat_le h (length inputs)) is.0 in
    let second = and_parts known (nat_le 1 h) third.0 in
    let has = known_variables s inputs second.0 in
    let some = leb-true 1 h second.1 in
    let few = leb-true h (length inputs) third.1 in
    let v = s.variables in
    let f = s.form in
    let ns = s.numbered in
    subst (MadeKeeps p k s) (sym is.1) (record {
      keeps = record {
        holds = count_holds p i k v f ns holds h inputs has some few;
        back = count_back p i k v f ns holds h inputs has some few;
      };
      clauses = count_true p i k v f ns holds h inputs has some few;
    })

-- what one more output leaves
abbrev made_more : Forms → ℕ → List Literal → ℕ → Staged → Made
made_more s j inputs m g = record {
  forms = record s {
    variables = g.fresh - 1;
    form = plus (pos m) (last_of (outputs_of g.tree)) (widened g.fresh s.form);
    made = s.made + length g.clauses;
    numbered = set s.numbered j (Count inputs g.tree m);
  };
  clauses = g.clauses;
}

-- a count at a place, one more output, and what that leaves
record IsGrown (s : Forms) (m : Made) : Type 0 where
  place : ℕ
  inputs : List Literal
  tree : Tree
  multiplier : ℕ
  here : slice_get s.numbered place ≡ Some (Count inputs tree multiplier)
  few : length (outputs_of tree) < size_of tree
  is : m ≡ made_more s place inputs multiplier
      (stage (length (outputs_of tree) + 1) (s.variables + 1) tree)

more_line_is : (number : ℕ) (s : Forms) (m : Made) → more_line number s ≡ Ok m → IsGrown s m
more_line_is zero s m e = absurd (err_ok _ m e)
more_line_is (suc j) s m e =
    elim (slice_get s.numbered j) as (λ o. slice_get s.numbered j ≡ o → IsGrown s m) [
      | None ↦ λ q. absurd (err_ok _ m (rw q at e))
      | Some x ↦ λ q. elim x as (λ x. slice_get s.numbered j ≡ Some x → IsGrown s m) [
        | Group inputs ↦ λ q. absurd (err_ok _ m (rw q at e))
        | Count inputs tree n ↦ λ q.
            let g = stage (length (outputs_of tree) + 1) (s.variables + 1) tree in
            let full = nat_le (size_of tree) (length (outputs_of tree)) in
            let some = nat_le (s.made + length g.clauses) MOST_COUNT_CLAUSES in
            elim full as (λ b. full ≡ b → IsGrown s m) [
              | true ↦ λ r. absurd (err_ok _ m (rw (q, r) at e))
              | false ↦ λ r. elim some as (λ b. some ≡ b → IsGrown s m) [
                | false ↦ λ u. absurd (err_ok _ m (rw (q, r, u) at e))
                | true ↦ λ u.
                    let one : suc j - 1 ≡ j = omega arith in
                    record {
                      place = j;
                      inputs = inputs;
                      tree = tree;
                      multiplier = n;
                      here = q;
                      few = leb-false (size_of tree) (length (outputs_of tree)) r;
                      is = sym (ok_same _ m (rw (q, r, u, one) at e));
                    }
              ] refl
            ] refl
      ] q
    ] refl

pub more_keeps : (p : Problem) → IsInstance p → (k number : ℕ) (s : Forms) (m : Made)
    → Holds p k s → more_line number s ≡ Ok m → MadeKeeps p k s m
more_keeps p i k number s m holds e =
    let g = more_line_is number s m e in
    let v = s.variables in
    let f = s.form in
    let ns = s.numbered in
    let j = g.place in
    let n = g.multiplier in
    subst (MadeKeeps p k s) (sym g.is) (record {
      keeps = record {
        holds = more_holds p i k v f ns holds j g.inputs g.tree n g.here g.few;
        back = more_back p i k v f ns holds j g.inputs g.tree n g.here g.few;
      };
      clauses = more_true p i k v f ns holds j g.inputs g.tree n g.here g.few;
    })

group_line_is : (at : Clauses) (inputs : List Literal) (ids : List ℕ) (s new : Forms)
    → group_line at inputs ids s ≡ Ok new
    → ((are_known s inputs && nat_le 2 (length inputs) && are_excluded at (pairs_of inputs) ids)
    ≡ true)
    × (new ≡ record s { numbered = s.numbered ++ Group inputs ∷ [] })
group_line_is at inputs ids s new e =
    let test = are_known s inputs && nat_le 2 (length inputs)
    && are_excluded at (pairs_of inputs) ids in
    let left : Forms = record s { numbered = s.numbered ++ Group inputs ∷ [] } in
    elim test as (λ b. test ≡ b → (test ≡ true) × (new ≡ left)) [
      | true ↦ λ q. (q, sym (ok_same _ new (rw q at e)))
      | false ↦ λ q. absurd (err_ok _ new (rw q at e))
    ] refl

pub group_keeps : (p : Problem) (k : ℕ) (at : Clauses) (inputs : List Literal) (ids : List ℕ)
    (s new : Forms) → Holds p k s
    → ((t : Assignment) → IsCheap p k s.numbered t → AllHold t at)
    → group_line at inputs ids s ≡ Ok new → Keeps p k s new
group_keeps p k at inputs ids s new holds all e =
    let is = group_line_is at inputs ids s new e in
    let known = are_known s inputs in
    let many = nat_le 2 (length inputs) in
    let apart = are_excluded at (pairs_of inputs) ids in
    let both = and_parts (known && many) apart is.0 in
    let has = known_variables s inputs (and_parts known many both.0).0 in
    subst (Keeps p k s) (sym is.1) (record {
      holds = group_holds p k s.variables s.form s.numbered inputs holds has
          (λ t c. excluded_low t at inputs ids (all t c) both.1);
      back = group_back p k s.numbered inputs;
    })
