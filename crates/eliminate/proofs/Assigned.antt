-- A literal becomes true by a clause that has it alone, and what that pays for.
use Rattle.std.proofs.Common.{◌≡◌, ◌≢◌, ℕ, ◌+◌, ◌-◌, ◌*◌, ◌<◌, ◌≤◌, Bool, true, false, List, []}
use Rattle.std.proofs.Common.{◌∷◌, ◌++◌, length, set, get_or, Some, None, ◌⊎◌, inl, inr, refl, sym}
use Rattle.std.proofs.Common.{◌∙◌, ap, subst, arith, length-append}
use Rattle.std.specs.Prelude.{sum_by, if◌then◌else◌, replicate}
use Rattle.std.proofs.lemmas.Bool.{or_cases, or_left, or_right, both_ways, false≢true}
use Rattle.std.proofs.lemmas.List.{length-replicate, length-set, get_or-set_same, get_or-set_other}
use Rattle.std.proofs.lemmas.List.Sums.{sum_by-set}
use Rattle.cnf.specs.Literal.{Literal, negation, literal_eq, index_of}
use Rattle.cnf.specs.Clause.{contains_literal}
use Rattle.cnf.proofs.Laws.{literal_eq-true, same_variable}
use Rattle.clauses.specs.Slots.{Slots, clause_at}
use Rattle.cnf.specs.Marks.{IsMarked, HasPlace}
use Rattle.cnf.proofs.Laws.{marked_one, place_within, none_marked}
use Rattle.eliminate.specs.declared.units.Units.{Units}
use Rattle.eliminate.specs.Simplifier.{Grows}
use Rattle.eliminate.specs.Units.{IsByUnit, AreUnits, open_count, MakesTrue}

contains-pushed : (c : List Literal) (k l : Literal) → contains_literal k (c ++ l ∷ []) ≡ true
    → (contains_literal k c ≡ true) ⊎ (k ≡ l)
contains-pushed [] k l e =
    elim (or_cases (literal_eq k l) false e) [ inl h ↦ inr (literal_eq-true k l h) | inr h ↦ inl h ]
contains-pushed (x ∷ c) k l e =
    elim (or_cases (literal_eq k x) (contains_literal k (c ++ l ∷ [])) e) [
      | inl h ↦ inl (or_left (literal_eq k x) (contains_literal k c) h)
      | inr more ↦ elim (contains-pushed c k l more) [
        | inl m ↦ inl (or_right (literal_eq k x) (contains_literal k c) m)
        | inr s ↦ inr s
      ]
    ]

-- how a literal is made true
pub record Assigns (u v : Units) (l : Literal) (r : ℕ) : Type 0 where
  pub values : v.values ≡ set u.values (index_of l) true
  pub clauses : v.clauses.items ≡ set u.clauses.items (l.variable - 1) (Some r)
  pub trail : v.trail.items ≡ u.trail.items ++ l ∷ []

module _ (u v : Units) (slots : Slots) (l : Literal) (r : ℕ) (a : AreUnits u slots)
    (place : HasPlace (length u.values) l)
    (not_true : contains_literal l u.trail.items ≡ false)
    (not_false : contains_literal (negation l) u.trail.items ≡ false)
    (alone : clause_at slots r ≡ Some (l ∷ [])) (s : Assigns u v l r) where
  one_less : open_count v + 1 ≡ open_count u
  one_less =
      let f : Bool → ℕ = λ marked. if marked then 0 else 1 in
      let unmarked : get_or u.values (index_of l) false ≡ false = a.marked.marked l place.0
      ∙ not_true in
      let sums : sum_by f (set u.values (index_of l) true) + f (get_or u.values (index_of l) false)
      ≡ sum_by f u.values + f true =
      sum_by-set f u.values (index_of l) true false (place_within (length u.values) l place) in
      let one : f (get_or u.values (index_of l) false) ≡ 1 = ap f unmarked in
      let new : open_count v ≡ sum_by f (set u.values (index_of l) true) = ap (sum_by f) s.values in
      omega arith

  pub less_open : open_count v < open_count u
  less_open = let less = one_less in omega arith

  others_stay : (k : Literal) → contains_literal k u.trail.items ≡ true
      → IsByUnit v.clauses.items slots k
  others_stay k on =
      let w = a.by_units k on in
      let other : k.variable ≢ l.variable = (λ e. elim (same_variable k l e) [
        | inl same ↦ both_ways (contains_literal l u.trail.items) not_true
            (subst (λ x. contains_literal x u.trail.items ≡ true) same on)
        | inr complement ↦ both_ways (contains_literal (negation l) u.trail.items) not_false
            (subst (λ x. contains_literal x u.trail.items ≡ true) complement on)
      ]) in
      let from : 0 < k.variable = w.from_one in
      let some : 0 < l.variable = place.0 in
      let apart : (k.variable - 1) ≢ (l.variable - 1) = omega arith in
      record {
        from_one = w.from_one;
        place = w.place;
        there = ap (λ xs. get_or xs (k.variable - 1) None) s.clauses
            ∙ get_or-set_other u.clauses.items (l.variable - 1) (k.variable - 1) (Some r) None apart
            ∙ w.there;
        alone = w.alone;
      }

  new_one : IsByUnit v.clauses.items slots l
  new_one =
      let row : 2 * l.variable ≤ length u.values = place.1 in
      let some : 0 < l.variable = place.0 in
      let rows : length u.values ≡ 2 * length u.clauses.items = a.places in
      let within : l.variable - 1 < length u.clauses.items = omega arith in
      record {
        from_one = place.0;
        place = r;
        there = ap (λ xs. get_or xs (l.variable - 1) None) s.clauses
            ∙ get_or-set_same u.clauses.items (l.variable - 1) (Some r) None within;
        alone = alone;
      }

  pub makes_true : MakesTrue u slots v slots
  makes_true =
      let rows : length v.clauses.items ≡ length u.clauses.items =
      ap length s.clauses ∙ length-set u.clauses.items (l.variable - 1) (Some r) in
      let values : length v.values ≡ length u.values =
      ap length s.values ∙ length-set u.values (index_of l) true in
      let long : length v.trail.items ≡ length u.trail.items + 1 =
      ap length s.trail ∙ length-append u.trail.items (l ∷ []) in
      record {
        units = record {
          marked =
              subst (λ m. IsMarked m v.trail.items) (sym s.values)
              (subst (IsMarked (set u.values (index_of l) true)) (sym s.trail)
              (marked_one u.values u.trail.items l place a.marked));
          places = values ∙ a.places ∙ ap (λ n. 2 * n) (sym rows);
          by_units =
              λ k on. elim (contains-pushed u.trail.items k l
              (subst (λ xs. contains_literal k xs ≡ true) s.trail on)) [
                | inl old ↦ others_stay k old
                | inr new ↦ subst (IsByUnit v.clauses.items slots) (sym new) new_one
              ];
        };
        rows = rows;
        grows = λ q c e. e;
        longer = omega arith;
        fewer = (let less = one_less in omega arith);
        paid = (let less = one_less in omega arith);
      }

-- one after another
pub makes_nothing : (u : Units) (slots : Slots) → AreUnits u slots → MakesTrue u slots u slots
makes_nothing u slots a = record {
  units = a;
  rows = refl;
  grows = λ r c e. e;
  longer = omega arith;
  fewer = omega arith;
  paid = omega arith;
}

pub makes_more : (u v w : Units) (slots mid left : Slots) → MakesTrue u slots v mid
    → MakesTrue v mid w left → MakesTrue u slots w left
makes_more u v w slots mid left a b = record {
  units = b.units;
  rows = b.rows ∙ a.rows;
  grows = λ r c e. b.grows r c (a.grows r c e);
  longer = omega (arith, a.longer, b.longer);
  fewer = omega (arith, a.fewer, b.fewer);
  paid = omega (arith, a.paid, b.paid);
}

-- units stay so where clauses come
pub units_grown : (u : Units) (slots left : Slots) → AreUnits u slots → Grows slots left
    → AreUnits u left
units_grown u slots left a grows = record {
  marked = a.marked;
  places = a.places;
  by_units = λ l on. let w = a.by_units l on in
      record {
        from_one = w.from_one;
        place = w.place;
        there = w.there;
        alone = grows w.place (l ∷ []) w.alone;
      };
}

pub makes_true_grown : (u v : Units) (slots left : Slots) → Grows slots left
    → MakesTrue u left v left → MakesTrue u slots v left
makes_true_grown u v slots left grows m = record {
  units = m.units;
  rows = m.rows;
  grows = grows;
  longer = m.longer;
  fewer = m.fewer;
  paid = m.paid;
}

-- a clause of one literal is the literal alone
pub single : (c : List Literal) (l : Literal) → length c ≡ 1 → contains_literal l c ≡ true
    → c ≡ l ∷ []
single [] l long e = absurd (omega arith)
single (k ∷ []) l long e = elim (or_cases (literal_eq l k) false e) [
  | inl same ↦ ap (λ x. x ∷ []) (sym (literal_eq-true l k same))
  | inr none ↦ absurd (false≢true none)
]
single (k ∷ m ∷ c) l long e = absurd (omega arith)

-- nothing is true at the start
pub units_start : (u : Units) (vars : ℕ) (slots : Slots) → u.values ≡ replicate (2 * vars) false
    → u.clauses.items ≡ replicate vars None → u.trail.items ≡ [] → AreUnits u slots
units_start u vars slots values clauses trail = record {
  marked =
      subst (λ m. IsMarked m u.trail.items) (sym values)
      (subst (IsMarked (replicate (2 * vars) false)) (sym trail) (none_marked (2 * vars)));
  places = ap length values ∙ length-replicate (2 * vars) false
      ∙ ap (λ n. 2 * n) (sym (ap length clauses ∙ length-replicate vars None));
  by_units = λ l on. absurd (false≢true (subst (λ xs. contains_literal l xs ≡ true) trail on));
}
