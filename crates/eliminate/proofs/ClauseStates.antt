-- What the true literals make of a clause, literal after literal.
use Rattle.std.proofs.Common.{◌≡◌, ℕ, zero, suc, ◌+◌, ◌*◌, ◌<◌, Bool, true, false, List, [], ◌∷◌}
use Rattle.std.proofs.Common.{◌++◌, length, take, get_or, ◌⊎◌, inl, inr, refl, sym, ◌∙◌, ap, subst}
use Rattle.std.proofs.Common.{arith}
use Rattle.std.proofs.lemmas.Bool.{or_cases, or_parts, or_left, or_right, both_ways, false≢true}
use Rattle.std.proofs.lemmas.Bool.{true≢false}
use Rattle.std.proofs.lemmas.List.{take_more}
use Rattle.std.proofs.lemmas.Option.{same_Some}
use Rattle.cnf.specs.Literal.{Literal, negation, literal_eq}
use Rattle.cnf.specs.Clause.{contains_literal, has_repeat}
use Rattle.cnf.specs.Refute.{IsUnit, IsFalseUnder}
use Rattle.cnf.proofs.Laws.{literal_eq-true, all_at, all_push, all_weaker, contains_front}
use Rattle.cnf.proofs.Laws.{at_contains, member_pushed}
use Rattle.cnf.specs.Formula.{IsFormulaClause}
use Rattle.clauses.specs.Slots.{Slots, clause_at}
use Rattle.cnf.specs.Marks.{mark_of, HasPlace}
use Rattle.eliminate.specs.declared.units.Units.{Units}
use Rattle.eliminate.specs.declared.units.ClauseState.{ClauseState}
use Rattle.eliminate.specs.declared.units.ClauseState.TheVariants.{Settled, Unit, Falsified}
use Rattle.eliminate.specs.Units.{IsSettled, AreUnits}
use Rattle.eliminate.proofs.States.{places_of}

contains-take : (c : List Literal) (i : ℕ) (l : Literal) → contains_literal l (take i c) ≡ true
    → contains_literal l c ≡ true
contains-take [] zero l e = e
contains-take [] (suc i) l e = e
contains-take (k ∷ c) zero l e = absurd (false≢true e)
contains-take (k ∷ c) (suc i) l e =
    elim (or_cases (literal_eq l k) (contains_literal l (take i c)) e) [
      | inl same ↦ or_left (literal_eq l k) (contains_literal l c) same
      | inr more ↦ or_right (literal_eq l k) (contains_literal l c) (contains-take c i l more)
    ]

-- what stands at a place of a clause without repeats does not stand before it
once_at : (c : List Literal) (i : ℕ) (l : Literal) → has_repeat c ≡ false → i < length c
    → l ≡ get_or c i l → contains_literal l (take i c) ≡ true → ⊥
once_at [] i l r h is e = absurd (omega arith)
once_at (k ∷ c) zero l r h is e = absurd (false≢true e)
once_at (k ∷ c) (suc i) l r h is e =
    let w = or_parts (contains_literal k c) (has_repeat c) r in
    elim (or_cases (literal_eq l k) (contains_literal l (take i c)) e) [
      | inl same ↦ both_ways (contains_literal k c) w.0
          (subst (λ x. contains_literal x c ≡ true) (literal_eq-true l k same)
          (at_contains c i l (omega arith) is))
      | inr more ↦ once_at c i l w.1 (omega arith) is more
    ]

-- the literals up to one more
pub take_next : (c : List Literal) (i : ℕ) (l : Literal) → i < length c → l ≡ get_or c i l
    → take (i + 1) c ≡ take i c ++ l ∷ []
take_next c i l h is = take_more c i l h ∙ ap (λ x. take i c ++ x ∷ []) (sym is)

-- no literal and its negation are both true
pub consistent : (u : Units) (slots : Slots) (l : Literal) → AreUnits u slots
    → contains_literal l u.trail.items ≡ true → contains_literal (negation l) u.trail.items ≡ true
    → ⊥
consistent u slots l a p n =
    let x = a.by_units l p in
    let y = a.by_units (negation l) n in
    let place : x.place ≡ y.place = same_Some x.place y.place (sym x.there ∙ y.there) in
    let same : (l ∷ []) ≡ (negation l ∷ []) =
    same_Some (l ∷ []) (negation l ∷ []) (sym x.alone ∙ ap (clause_at slots) place ∙ y.alone) in
    apart l.negated (ap first_negated same)
  where
    first_negated : List Literal → Bool
    first_negated [] = true
    first_negated (k ∷ c) = k.negated

    apart : (b : Bool) → b ≡ (negation (record { variable = 1; negated = b })).negated → ⊥
    apart true e = true≢false e
    apart false e = false≢true e

-- a clause with a true literal is settled
pub settled_true : (u : Units) (slots : Slots) (c : List Literal) (k : Literal) → AreUnits u slots
    → contains_literal k c ≡ true → contains_literal k u.trail.items ≡ true
    → IsSettled u.trail.items c
settled_true u slots c k a has t = (
  λ f. consistent u slots k a t
      (all_at (λ l. contains_literal (negation l) u.trail.items ≡ true) c k f has),
  λ m w. elim (all_at (λ l. (l ≡ m) ⊎ (contains_literal (negation l) u.trail.items ≡ true)) c k
      w.others has) [
        | inl same ↦ both_ways (contains_literal m u.trail.items) w.not_true
            (subst (λ x. contains_literal x u.trail.items ≡ true) same t)
        | inr n ↦ consistent u slots k a t n
      ],
)

-- and so is one with two literals that are not false
pub settled_two : (A c : List Literal) (k l : Literal) → contains_literal k c ≡ true
    → contains_literal l c ≡ true → (k ≡ l → ⊥)
    → contains_literal (negation k) A ≡ false → contains_literal (negation l) A ≡ false
    → IsSettled A c
settled_two A c k l hk hl apart nk nl = (
  λ f. both_ways (contains_literal (negation k) A) nk
      (all_at (λ x. contains_literal (negation x) A ≡ true) c k f hk),
  λ m w. elim (all_at (λ x. (x ≡ m) ⊎ (contains_literal (negation x) A ≡ true)) c k
      w.others hk) [
        | inr n ↦ both_ways (contains_literal (negation k) A) nk n
        | inl km ↦ elim (all_at (λ x. (x ≡ m) ⊎ (contains_literal (negation x) A ≡ true)) c l
            w.others hl) [
              | inl lm ↦ apart (km ∙ sym lm)
              | inr n ↦ both_ways (contains_literal (negation l) A) nl n
            ]
      ],
)

-- what is found of the first literals of a clause
abbrev pub HasStateSoFar : List Literal → List Literal → ClauseState → Type 0
HasStateSoFar A c Settled = ⊥
HasStateSoFar A c (Unit l) = IsUnit c A l
HasStateSoFar A c Falsified = IsFalseUnder c A

-- a false literal more
pub state_false : (A c : List Literal) (i : ℕ) (k : Literal) (s : ClauseState) → i < length c
    → k ≡ get_or c i k → contains_literal (negation k) A ≡ true
    → HasStateSoFar A (take i c) s → HasStateSoFar A (take (i + 1) c) s
state_false A c i k Settled h is f so = so
state_false A c i k (Unit l) h is f so = rw (take_next c i k h is) (record {
  member = contains_front l (take i c) (k ∷ []) so.member;
  not_true = so.not_true;
  not_false = so.not_false;
  others =
      all_push (λ x. (x ≡ l) ⊎ (contains_literal (negation x) A ≡ true)) (take i c) k
      so.others (inr f);
})
state_false A c i k Falsified h is f so =
    rw (take_next c i k h is) (all_push (λ x. contains_literal (negation x) A ≡ true)
    (take i c) k so f)

-- a first open one
pub state_open : (A c : List Literal) (i : ℕ) (k : Literal) → i < length c → k ≡ get_or c i k
    → contains_literal k A ≡ false → contains_literal (negation k) A ≡ false
    → IsFalseUnder (take i c) A → IsUnit (take (i + 1) c) A k
state_open A c i k h is t f so = rw (take_next c i k h is) (record {
  member = member_pushed k (take i c);
  not_true = t;
  not_false = f;
  others = all_push (λ x. (x ≡ k) ⊎ (contains_literal (negation x) A ≡ true)) (take i c) k
      (all_weaker (λ x. contains_literal (negation x) A ≡ true)
      (λ x. (x ≡ k) ⊎ (contains_literal (negation x) A ≡ true)) (take i c) (λ x n. inr n) so)
      (inl refl);
})

-- a second one
pub state_second : (A c : List Literal) (i : ℕ) (k l : Literal) → has_repeat c ≡ false
    → i < length c → k ≡ get_or c i k → contains_literal (negation k) A ≡ false
    → IsUnit (take i c) A l → IsSettled A c
state_second A c i k l r h is f so =
    settled_two A c k l (at_contains c i k h is) (contains-take c i l so.member)
    (λ same. once_at c i k r h is (subst (λ x. contains_literal x (take i c) ≡ true)
    (sym same) so.member)) f so.not_false

-- the place of a literal of a clause
pub literal_place : (u : Units) (slots : Slots) (c : List Literal) (i : ℕ) (l : Literal)
    → AreUnits u slots → IsFormulaClause (length u.clauses.items) c → i < length c
    → l ≡ get_or c i l
    → HasPlace (length u.values) l
literal_place u slots c i l a f h is =
    subst (λ n. HasPlace n l) (sym a.places) (subst (HasPlace (2 * length u.clauses.items)) (sym is)
    (places_of (length u.clauses.items) c f.from_one f.small i l h))

-- a mark says whether the literal is true
pub mark_says : (u : Units) (slots : Slots) (l : Literal) (b : Bool) → AreUnits u slots
    → 0 < l.variable → b ≡ mark_of u.values l → contains_literal l u.trail.items ≡ b
mark_says u slots l b a some e = sym (a.marked.marked l some) ∙ sym e
