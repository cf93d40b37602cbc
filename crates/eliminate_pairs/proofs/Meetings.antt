-- In how many clauses of a store two literals stand together, by the places so far.
use Rattle.std.proofs.Common.{◌≡◌, ℕ, zero, suc, ◌+◌, ◌≤◌, Bool, true, false, List, [], ◌∷◌, Some}
use Rattle.std.proofs.Common.{None, refl, subst, arith, take}
use Rattle.std.specs.Prelude.{Option, if◌then◌else◌, ◌&&◌, nat_le, length}
use Rattle.std.proofs.lemmas.Option.{none-some}
use Rattle.cnf.specs.Literal.{Literal}
use Rattle.cnf.specs.Clause.{contains_literal}
use Rattle.clauses.specs.Slots.{Slots}
use Rattle.eliminate_pairs.specs.Pairs.{together, meetings, StandAt, StandOften, ShareClause}

both_left : (x y : Bool) → (x && y) ≡ true → x ≡ true
both_left true y e = refl
both_left false y e = e

both_right : (x y : Bool) → (x && y) ≡ true → y ≡ true
both_right true y e = e
both_right false true e = refl
both_right false false e = e

module _ (a b : Literal) where
  -- of one place
  abbrev meeting : Option (List Literal) → ℕ
  meeting None = 0
  meeting (Some c) = if together a b c then 1 else 0

  met : (s : Option (List Literal)) (slots : Slots)
      → meetings a b (s ∷ slots) ≡ meeting s + meetings a b slots
  met None slots = omega arith
  met (Some c) slots = refl

  meeting_one : (s : Option (List Literal)) (c : List Literal) → s ≡ Some c
      → together a b c ≡ true → meeting s ≡ 1
  meeting_one s c e t = rw (e, t) refl

  one_more_at : (slots : Slots) (from place : ℕ) → from ≤ place → StandAt slots a b place
      → meetings a b (take from slots) + 1 ≤ meetings a b (take (suc place) slots)
  one_more_at [] from place le h = absurd (none-some h.clause h.there)
  one_more_at (s ∷ slots) zero zero le h =
      omega (arith, met s [], meeting_one s h.clause h.there h.both)
  one_more_at (s ∷ slots) zero (suc place) le h =
      let i = one_more_at slots 0 place (omega arith)
      (record { clause = h.clause; there = h.there; both = h.both }) in
      omega (arith, met s (take (suc place) slots), i)
  one_more_at (s ∷ slots) (suc from) zero le h = absurd (omega arith)
  one_more_at (s ∷ slots) (suc from) (suc place) le h =
      let i = one_more_at slots from place (omega arith)
      (record { clause = h.clause; there = h.there; both = h.both }) in
      omega (arith, met s (take from slots), met s (take (suc place) slots), i)

  -- one more place
  pub one_more : (slots : Slots) (from place : ℕ) → from ≤ place → StandAt slots a b place
      → meetings a b (take from slots) + 1 ≤ meetings a b (take (place + 1) slots)
  one_more slots from place le h =
      let e : suc place ≡ place + 1 = omega arith in
      subst (λ n. meetings a b (take from slots) + 1 ≤ meetings a b (take n slots)) e
      (one_more_at slots from place le h)

  pub some_of : (slots : Slots) (n : ℕ) → meetings a b (take n slots) ≤ meetings a b slots
  some_of [] zero = omega arith
  some_of [] (suc n) = omega arith
  some_of (s ∷ slots) zero = omega arith
  some_of (s ∷ slots) (suc n) =
      let i = some_of slots n in omega (arith, met s (take n slots), met s slots, i)

  -- where they meet they share a clause
  first_met : (slots : Slots) → 1 ≤ meetings a b slots → (place : ℕ) × StandAt slots a b place
  first_met [] h = absurd (omega arith)
  first_met (None ∷ slots) h =
      let i = first_met slots h in
      (suc i.0, record { clause = i.1.clause; there = i.1.there; both = i.1.both })
  first_met (Some c ∷ slots) h = elim (together a b c) as (λ t. together a b c ≡ t
      → 1 ≤ (if t then 1 else 0) + meetings a b slots
      → (place : ℕ) × StandAt (Some c ∷ slots) a b place) [
        | true ↦ λ e k. (0, record { clause = c; there = refl; both = e })
        | false ↦ λ e k. let i = first_met slots (omega (arith, k)) in
            (suc i.0, record { clause = i.1.clause; there = i.1.there; both = i.1.both })
      ] refl h

  both_in : (c : List Literal) → together a b c ≡ true
      → (contains_literal a c ≡ true) × (contains_literal b c ≡ true)
  both_in c e =
      let pair = contains_literal a c && contains_literal b c in
      let both = both_left pair (nat_le 3 (length c)) e in (
        both_left (contains_literal a c) (contains_literal b c) both,
        both_right (contains_literal a c) (contains_literal b c) both,
      )

  pub shares : (slots : Slots) → StandOften slots a b → ShareClause slots a b
  shares slots h =
      let i = first_met slots (omega (arith, h.many)) in
      let both = both_in i.1.clause i.1.both in
      record {
        place = i.0;
        clause = i.1.clause;
        there = i.1.there;
        has_a = both.0;
        has_b = both.1;
        two = h.two;
      }
