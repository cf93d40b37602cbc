-- An engine and a store to which a clause is added.
use Rattle.std.proofs.Common.{◌≡◌, ℕ, ◌≤◌, false, List, [], ◌∷◌, ◌++◌, length, Some, None, inl}
use Rattle.std.proofs.Common.{inr, sym, ◌∙◌, ap, arith}
use Rattle.std.proofs.lemmas.Bool.{cases_lt, cases_Bool}
use Rattle.std.proofs.lemmas.Option.{slice_get_past}
use Rattle.cnf.specs.Literal.{Literal}
use Rattle.clauses.specs.Slots.{Slots, clause_at, in_slot}
use Rattle.clauses.proofs.Laws.{clause_new, clause_old}
use Rattle.propagate.specs.Watches.{EngineState, is_attached}
use Rattle.propagate.specs.Fits.{Fits}
use Rattle.propagate.proofs.FitsLaws.{fits_local}

-- no clause stands past the end
past_end : (slots : Slots) (r : ℕ) (c : List Literal) → length slots ≤ r
    → clause_at slots r ≡ Some c → ⊥
past_end slots r c past e =
    let none : clause_at slots r ≡ None = ap in_slot (slice_get_past slots r past) in
    let both : None ≡ Some c = sym none ∙ e in
    cc

pub new_is_detached : (e : EngineState) (slots : Slots) → Fits e slots
    → is_attached e (length slots) ≡ false
new_is_detached e slots fits = elim (cases_Bool (is_attached e (length slots))) [
  | inl held ↦ let found = fits.attached (length slots) held in
      absurd (past_end slots (length slots) found.0 (omega arith) found.1)
  | inr not_held ↦ not_held
]

pub fits_added : (e : EngineState) (slots : Slots) (c : List Literal) → Fits e slots
    → Fits e (slots ++ Some c ∷ [])
fits_added e slots c fits =
    fits_local e slots (slots ++ Some c ∷ []) fits (λ r held. elim (cases_lt r (length slots)) [
      | inl lt ↦ clause_old slots c r lt
      | inr le ↦ let found = fits.attached r held in absurd (past_end slots r found.0 le found.1)
    ])

-- what an attached clause owes, where it was just added
pub added_live : (slots : Slots) (c : List Literal) (r : ℕ) → r ≡ length slots
    → clause_at (slots ++ Some c ∷ []) r ≡ Some c
added_live slots c r e = ap (clause_at (slots ++ Some c ∷ [])) e ∙ clause_new slots c
