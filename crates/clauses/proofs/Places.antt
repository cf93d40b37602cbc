-- The clauses of a store that gets one more, or loses one.
use Rattle.std.proofs.Common.{◌≡◌, ◌≢◌, ℕ, zero, suc, ◌<◌, List, [], ◌∷◌, ◌++◌, length, set, Some}
use Rattle.std.proofs.Common.{None, ◌⊎◌, inl, inr, refl, sym, ◌∙◌, ap, subst, arith}
use Rattle.std.proofs.lemmas.Bool.{cases_eq}
use Rattle.std.proofs.lemmas.Option.{none-some, same_Some}
use Rattle.cnf.specs.Literal.{Literal}
use Rattle.clauses.specs.Slots.{Slots, clause_at}

pub live_within : (slots : Slots) (r : ℕ) (c : List Literal) → clause_at slots r ≡ Some c
    → r < length slots
live_within [] r c e = absurd (none-some c e)
live_within (s ∷ slots) zero c e = omega arith
live_within (s ∷ slots) (suc r) c e = let h = live_within slots r c e in omega arith

-- one more clause
pub clause_new : (slots : Slots) (c : List Literal)
    → clause_at (slots ++ Some c ∷ []) (length slots) ≡ Some c
clause_new [] c = refl
clause_new (s ∷ slots) c = clause_new slots c

pub clause_old : (slots : Slots) (c : List Literal) (r : ℕ) → r < length slots
    → clause_at (slots ++ Some c ∷ []) r ≡ clause_at slots r
clause_old [] c r h = absurd (omega arith)
clause_old (s ∷ slots) c zero h = refl
clause_old (s ∷ slots) c (suc r) h = clause_old slots c r (omega arith)

pub clause_kept : (slots : Slots) (c d : List Literal) (r : ℕ) → clause_at slots r ≡ Some d
    → clause_at (slots ++ Some c ∷ []) r ≡ Some d
clause_kept slots c d r e = clause_old slots c r (live_within slots r d e) ∙ e

pub clause_cases : (slots : Slots) (c : List Literal) (r : ℕ) (d : List Literal)
    → clause_at (slots ++ Some c ∷ []) r ≡ Some d → (clause_at slots r ≡ Some d)
    ⊎ ((r ≡ length slots) × (d ≡ c))
clause_cases [] c zero d e = inr (refl, sym (same_Some c d e))
clause_cases [] c (suc r) d e = absurd (none-some d e)
clause_cases (s ∷ slots) c zero d e = inl e
clause_cases (s ∷ slots) c (suc r) d e =
    elim (clause_cases slots c r d e) [ inl h ↦ inl h | inr h ↦ inr (ap suc h.0, h.1) ]

-- one clause less
pub clause_gone : (slots : Slots) (q : ℕ) (d : List Literal)
    → clause_at (set slots q None) q ≡ Some d → ⊥
clause_gone [] q d e = none-some d e
clause_gone (s ∷ slots) zero d e = none-some d e
clause_gone (s ∷ slots) (suc q) d e = clause_gone slots q d e

pub clause_other : (slots : Slots) (q r : ℕ) → r ≢ q
    → clause_at (set slots q None) r ≡ clause_at slots r
clause_other [] q r h = refl
clause_other (s ∷ slots) zero zero h = absurd (h refl)
clause_other (s ∷ slots) zero (suc r) h = refl
clause_other (s ∷ slots) (suc q) zero h = refl
clause_other (s ∷ slots) (suc q) (suc r) h = clause_other slots q r (λ e. h (ap suc e))

pub clause_left : (slots : Slots) (q r : ℕ) (d : List Literal)
    → clause_at (set slots q None) r ≡ Some d → (r ≢ q) × (clause_at slots r ≡ Some d)
clause_left slots q r d e = elim (cases_eq r q) [
  | inl same ↦ absurd (clause_gone slots q d
      (subst (λ k. clause_at (set slots q None) k ≡ Some d) same e))
  | inr other ↦ (other, sym (clause_other slots q r other) ∙ e)
]
