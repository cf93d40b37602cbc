-- Groups, in what holds of the forms.
use Rattle.std.proofs.Common.{◌≡◌, ℕ, ◌+◌, ◌≤◌, true, false, ◌&&◌, ◌⊎◌, inl}
use Rattle.std.proofs.Common.{inr, List, [], ◌∷◌, ◌++◌, Some, None, refl, ap, subst, arith}
use Rattle.std.proofs.lemmas.Int.{ints}
use Rattle.std.proofs.lemmas.Bool.{and_parts, or_cases, false≢true, both_ways, cases_Bool}
use Rattle.std.proofs.lemmas.List.Sums.{sum_by_push}
use Rattle.std.specs.List.{AllByRecursion}
use Rattle.cnf.specs.Numbers.{one_if}
use Rattle.cnf.specs.Literal.{Assignment, Literal, literal_eq, literal_value, negation}
use Rattle.cnf.specs.Clause.{Satisfies, clause_value, contains_literal}
use Rattle.cnf.specs.Problem.{Problem}
use Rattle.cnf.specs.Refute.{Clauses}
use Rattle.cnf.proofs.Laws.{AllHold, all_left, all_parts, all_push, literal_eq-true, value-negation}
use Rattle.linear.specs.Linear.{true_count}
use Rattle.linear.specs.Costs.{CostForm}
use Rattle.forms.specs.Forms.{Numbered, Group, are_excluded, excludes, pairs_after, pairs_of}
use Rattle.forms.specs.Forms.{pairs_with}
use Rattle.lrat_cuts.proofs.LawMeaning.{FormHolds, IsCheap, IsItemBelow, IsLow, Means, slack}
use Rattle.lrat_cuts.proofs.LawCounts.{HasVariables, known_below}
use Rattle.lrat_cuts.proofs.LawMore.{count_push}

-- one of both is false
abbrev pub IsEitherFalse : Assignment → Literal × Literal → Type 0
IsEitherFalse t q = (literal_value t q.0 ≡ false) ⊎ (literal_value t q.1 ≡ false)

negated_off : (t : Assignment) (k l : Literal) → literal_eq l (negation k) ≡ true
    → literal_value t l ≡ true → literal_value t k ≡ false
negated_off t k l same on =
    value-negation t k
    (subst (λ x. literal_value t x ≡ true) (literal_eq-true l (negation k) same) on)

excluded_one : (t : Assignment) (q : Literal × Literal) (c : List Literal) → excludes q c ≡ true
    → Satisfies t c → IsEitherFalse t q
excluded_one t q [] e on = absurd (false≢true on)
excluded_one t q (l ∷ c) e on =
    let pair = negation q.0 ∷ negation q.1 ∷ [] in
    let parts = and_parts (contains_literal l pair) (excludes q c) e in
    elim (or_cases (literal_value t l) (clause_value t c) on) [
      | inr more ↦ excluded_one t q c parts.1 more
      | inl here ↦ elim (or_cases (literal_eq l (negation q.0))
          (contains_literal l (negation q.1 ∷ [])) parts.0) [
            | inl first ↦ inl (negated_off t q.0 l first here)
            | inr rest ↦ elim (or_cases (literal_eq l (negation q.1)) false rest) [
              | inl second ↦ inr (negated_off t q.1 l second here)
              | inr none ↦ absurd (false≢true none)
            ]
          ]
    ]

excluded_each : (t : Assignment) (at : Clauses) (ps : List (Literal × Literal)) (ids : List ℕ)
    → AllHold t at → are_excluded at ps ids ≡ true → AllByRecursion (IsEitherFalse t) ps
excluded_each t at [] ids all e = tt
excluded_each t at (q ∷ ps) [] all e = absurd (false≢true e)
excluded_each t at (q ∷ ps) (i ∷ ids) all e =
    elim (at i) as (λ o. at i ≡ o → AllByRecursion (IsEitherFalse t) (q ∷ ps)) [
      | None ↦ λ s. absurd (false≢true (rw s at e))
      | Some c ↦ λ s.
          let both : (excludes q c && are_excluded at ps ids) ≡ true = rw s at e in
          let parts = and_parts (excludes q c) (are_excluded at ps ids) both in
          (excluded_one t q c parts.0 (all i c s), excluded_each t at ps ids all parts.1)
    ] refl

-- where a literal is true, those that exclude it are false
none_with : (t : Assignment) (l : Literal) (before : List Literal) → literal_value t l ≡ true
    → AllByRecursion (IsEitherFalse t) (pairs_with l before) → true_count t before ≡ 0
none_with t l [] on h = refl
none_with t l (m ∷ before) on h =
    let off : literal_value t m ≡ false = elim h.0 [
      | inl first ↦ first
      | inr second ↦ absurd (both_ways (literal_value t l) second on)
    ] in
    let e : one_if (literal_value t m) ≡ 0 = ap one_if off in
    omega (arith, e, none_with t l before on h.1)

count_after : (t : Assignment) (before ls : List Literal) → true_count t before ≤ 1
    → AllByRecursion (IsEitherFalse t) (pairs_after before ls)
    → true_count t before + true_count t ls ≤ 1
count_after t before [] low h = omega (arith, low)
count_after t before (l ∷ ls) low h =
    let parts = all_parts (IsEitherFalse t) (pairs_with l before)
    (pairs_after (before ++ l ∷ []) ls) h in
    let pushed = count_push t before l in
    elim (cases_Bool (literal_value t l)) [
      | inl on ↦
          let e : one_if (literal_value t l) ≡ 1 = ap one_if on in
          let none = none_with t l before on parts.0 in
          omega (
            arith,
            pushed,
            e,
            none,
            count_after t (before ++ l ∷ []) ls (omega (arith, pushed, e, none)) parts.1,
          )
      | inr off ↦
          let e : one_if (literal_value t l) ≡ 0 = ap one_if off in
          omega (
            arith,
            pushed,
            e,
            count_after t (before ++ l ∷ []) ls (omega (arith, pushed, e, low)) parts.1,
          )
    ]

-- at most one of the literals is true where the clauses are
pub excluded_low : (t : Assignment) (at : Clauses) (inputs : List Literal) (ids : List ℕ)
    → AllHold t at → are_excluded at (pairs_of inputs) ids ≡ true → true_count t inputs ≤ 1
excluded_low t at inputs ids all e =
    let low = count_after t [] inputs (omega arith)
    (excluded_each t at (pairs_of inputs) ids all e) in
    omega (arith, low)

pub group_back : (p : Problem) (k : ℕ) (ns : List Numbered) (inputs : List Literal)
    (t : Assignment) → IsCheap p k (ns ++ Group inputs ∷ []) t → IsCheap p k ns t
group_back p k ns inputs t c = record {
  meant = record {
    relaxed = (c.meant).relaxed;
    counts = all_left (Means t) ns (Group inputs ∷ []) (c.meant).counts;
  };
  feasible = c.feasible;
  cost = c.cost;
}

-- a group that is new
pub group_holds : (p : Problem) (k v : ℕ) (f : CostForm) (ns : List Numbered)
    (inputs : List Literal) → FormHolds p k v f ns → HasVariables v inputs
    → ((t : Assignment) → IsCheap p k ns t → true_count t inputs ≤ 1)
    → FormHolds p k v f (ns ++ Group inputs ∷ [])
group_holds p k v f ns inputs h known low =
    let new = Group inputs in
    let now = ns ++ new ∷ [] in
    let before = group_back p k ns inputs in
    record {
      choice = λ u. let c = h.choice u in (
        c.0,
        c.1,
        record {
          relaxed = (c.2).relaxed;
          counts = all_push (Means c.0) ns new (c.2).counts tt;
        },
      );
      relaxed = h.relaxed;
      wide = h.wide;
      width = h.width;
      items = all_push (IsItemBelow (v + 1)) ns new h.items (known_below v inputs known);
      cost = h.cost;
      fixed = λ t c. h.fixed t (before t c);
      groups = λ t c. all_push (IsLow t) ns new (h.groups t (before t c)) (low t (before t c));
      facts = λ t c.
          let s = sum_by_push (slack t) ns new in
          let b = h.facts t (before t c) in
          omega (arith, ints, s, b);
    }
