-- What an analysis asks of a conflict, what a decision asks, and which literals of level 0 hints
-- need.
use Rattle.std.proofs.Common.{◌≡◌, ℕ, ◌+◌, ◌-◌, ◌<◌, ◌≤◌, true, List, [], ◌∷◌, ◌++◌, map, Some, ◌⊎◌}
use Rattle.std.proofs.Common.{inl, inr, sym, ◌∙◌, ap, arith}
use Rattle.std.specs.List.{AllByRecursion}
use Rattle.std.proofs.lemmas.Bool.{cases_eq, or_left, or_right, or_cases}
use Rattle.cnf.specs.Literal.{Literal, negation, literal_eq}
use Rattle.cnf.specs.Clause.{contains_literal}
use Rattle.cnf.specs.Refute.{Clauses, IsFalseUnder}
use Rattle.clauses.specs.Slots.{Slots, clause_at}
use Rattle.propagate.specs.Trail.{Assigned, literals_of, depth_of}
use Rattle.propagate.specs.Trail.{level_in, kept_to, HasReasons, level_of}
use Rattle.propagate.proofs.Laws.{negation_twice, level_from-le}
use Rattle.cnf.proofs.Laws.{literal_eq-refl, all_weaker, contains-append, contains_front}
use Rattle.cnf.proofs.Laws.{contains_back}
use Rattle.propagate.proofs.Laws.{in_kept, kept_prefix}
use Rattle.propagate.proofs.Laws.{literals-append}
use Rattle.analyze.specs.Analyzer.{IsConflict, IsFixpoint}
use Rattle.analyze.proofs.Laws.{level_is, false_below}
use Rattle.cdcl_search.specs.Invariant.{zero_of}
use Rattle.cdcl_search.specs.Hinting.{Serves}

-- a literal of the current level, or all were false at the end of the level below
current_or_below : (at : Clauses) (T : List Assigned) (c : List Literal) → HasReasons at [] T
    → 0 < depth_of T → IsFalseUnder c (literals_of T)
    → ((l : Literal) × (contains_literal l c ≡ true) × (level_of T l ≡ depth_of T))
    ⊎ IsFalseUnder c (literals_of (kept_to (depth_of T - 1) T))
current_or_below at T [] reasons deep f = inr tt
current_or_below at T (l ∷ c) reasons deep f =
    let low : level_of T l ≤ 0 + depth_of T =
    level_from-le 0 T l.variable (level_of T l) (level_is T l f.0) in
    elim (cases_eq (level_of T l) (depth_of T)) [
      | inl s ↦ inl (l, or_left (literal_eq l l) (contains_literal l c) (literal_eq-refl l), s)
      | inr ne ↦ elim (current_or_below at T c reasons deep f.1) [
        | inl w ↦ inl (w.0, or_right (literal_eq w.0 l) (contains_literal w.0 c) w.1, w.2)
        | inr g ↦ inr (false_below at T l (depth_of T - 1) reasons f.0 (omega arith), g)
      ]
    ]

-- a conflict above level 0 has a literal of the current level
pub is_conflict : (slots : Slots) (T : List Assigned) (r : ℕ) (c : List Literal)
    → HasReasons (clause_at slots) [] T → 0 < depth_of T
    → IsFixpoint slots (literals_of (kept_to (depth_of T - 1) T))
    → clause_at slots r ≡ Some c → IsFalseUnder c (literals_of T) → IsConflict T c
is_conflict slots T r c reasons deep fixpoint here wrong =
    elim (current_or_below (clause_at slots) T c reasons deep wrong) [
      | inl w ↦ record { falsified = wrong; literal = w.0; stands = w.1; current = w.2 }
      | inr f ↦ absurd ((fixpoint r c here).0 f)
    ]

pub at_zero : (T : List Assigned) (k : Literal) → contains_literal k (zero_of T) ≡ true
    → level_in T k.variable ≡ Some 0
at_zero T k m =
    let w = kept_prefix 0 T in
    let k_in : contains_literal k (literals_of T) ≡ true =
    ap (contains_literal k) (ap literals_of w.1 ∙ literals-append (kept_to 0 T) w.0)
    ∙ contains_front k (zero_of T) (literals_of w.0) m in
    let back : contains_literal (negation (negation k)) (literals_of T) ≡ true =
    ap (λ x. contains_literal x (literals_of T)) (negation_twice k) ∙ k_in in
    let level : level_in T k.variable ≡ Some (level_of T (negation k)) =
    level_is T (negation k) back in
    let low = in_kept 0 T k (level_of T (negation k)) m level in
    let none : level_of T (negation k) ≡ 0 = omega arith in
    level ∙ ap Some none

-- the literals of level 0 whose negations stand in the hinted clauses serve for all of level 0
pub serves_zero : (at : Clauses) (T : List Assigned) (c zs : List Literal) (hints : List ℕ)
    → HasReasons at [] T
    → AllByRecursion (λ h. (d : List Literal) → at h ≡ Some d → (k : Literal)
    → contains_literal k d ≡ true → level_in T k.variable ≡ Some 0
    → contains_literal (negation k) (zero_of T) ≡ true
    → contains_literal (negation k) zs ≡ true) hints
    → Serves at (map negation c ++ zero_of T) (map negation c ++ zs) hints
serves_zero at T c zs hints reasons f = all_weaker _ _ hints (λ h g d e k m t.
    elim (or_cases (contains_literal (negation k) (map negation c))
    (contains_literal (negation k) (zero_of T))
    (sym (contains-append (negation k) (map negation c) (zero_of T)) ∙ t)) [
      | inl a ↦ contains_front (negation k) (map negation c) zs a
      | inr z ↦ contains_back (negation k) (map negation c) zs
          (g d e k m (at_zero T (negation k) z) z)
    ]) f
