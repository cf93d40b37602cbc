-- Names move to the new places of their clauses.
use Rattle.std.proofs.Common.{◌≡◌, ◌≢◌, ℕ, ◌+◌, ◌<◌, ◌≤◌, List, length, get_or, set, take, map, inl}
use Rattle.std.proofs.Common.{inr, refl, sym, ◌∙◌, ap, subst, arith}
use Rattle.std.specs.Prelude.{All}
use Rattle.std.specs.List.Sorted.{IsStrictlyIncreasing}
use Rattle.std.proofs.lemmas.Bool.{cases_lt}
use Rattle.std.proofs.lemmas.List.{length-set, get_or-set_same, get_or-set_other, get_or-take}
use Rattle.std.proofs.lemmas.List.{get_or_default}
use Rattle.clauses.specs.Slots.{Renaming, old_at, new_at}
use Rattle.clauses.proofs.Laws.{new_rise}
use Rattle.lrat_log.specs.declared.lines.Name.{Name}
use Rattle.lrat_log.specs.declared.lines.Name.TheVariants.{Formula}
use Rattle.cdcl_search.specs.Invariant.{name_at}
use Rattle.cdcl_search.specs.Moves.{NamesMoved}

-- the first `next` moves are done, and what lies behind them is as it was
pub record IsMovingNames (old new : List Name) (ms : Renaming) (next : ℕ) : Type 0 where
  pub done : (i : ℕ) → i < next → name_at new (new_at ms i) ≡ name_at old (old_at ms i)
  pub later : (j : ℕ) → ((i : ℕ) → i < next → new_at ms i < j) → name_at new j ≡ name_at old j
  pub long : length new ≡ length old

pub names_start : (old : List Name) (ms : Renaming) → IsMovingNames old old ms 0
names_start old ms = record { done = λ i h. absurd (omega arith); later = λ j h. refl; long = refl }

module _ (old : List Name) (ms : Renaming) (rising : IsStrictlyIncreasing (map (λ m. m.1) ms))
    (lower : All (λ m. m.1 ≤ m.0) ms) (within : All (λ m. m.0 < length old) ms) where
  pub names_step : (new : List Name) (next : ℕ) → IsMovingNames old new ms next → next < length ms
      → IsMovingNames old (set new (new_at ms next) (name_at new (old_at ms next))) ms (next + 1)
  names_step new next m lt =
      let low : new_at ms next ≤ old_at ms next = lower next (0, 0) lt in
      let room : old_at ms next < length old = within next (0, 0) lt in
      record {
        done = λ i h. elim (cases_lt i next) [
          | inl less ↦
              let ne : new_at ms i ≢ new_at ms next =
              omega (arith, new_rise ms rising i next less lt) in
              get_or-set_other new (new_at ms next) (new_at ms i) (name_at new (old_at ms next))
              (Formula 0) ne ∙ m.done i less
          | inr more ↦
              let same : i ≡ next = omega arith in
              ap (λ k. name_at (set new (new_at ms next) (name_at new (old_at ms next)))
              (new_at ms k)) same
              ∙ get_or-set_same new (new_at ms next) (name_at new (old_at ms next)) (Formula 0)
              (omega (arith, m.long))
              ∙ m.later (old_at ms next)
              (λ k less. omega (arith, new_rise ms rising k next less lt))
              ∙ ap (λ k. name_at old (old_at ms k)) (sym same)
        ];
        later = λ j h.
            let ne : j ≢ new_at ms next = omega (arith, h next (omega arith)) in
            get_or-set_other new (new_at ms next) j (name_at new (old_at ms next)) (Formula 0) ne
            ∙ m.later j (λ i less. h i (omega arith));
        long = length-set new (new_at ms next) (name_at new (old_at ms next)) ∙ m.long;
      }

  pub names_step_at : (new : List Name) (next at : ℕ) (n : Name) → IsMovingNames old new ms next
      → next < length ms → at ≡ new_at ms next → n ≡ name_at new (old_at ms next)
      → IsMovingNames old (set new at n) ms (next + 1)
  names_step_at new next at n m lt e f =
      subst (λ a. IsMovingNames old (set new a n) ms (next + 1)) (sym e)
      (subst (λ x. IsMovingNames old (set new (new_at ms next) x) ms (next + 1)) (sym f)
      (names_step new next m lt))

  pub names_end : (new : List Name) (next places : ℕ) → IsMovingNames old new ms next
      → length ms ≤ next → All (λ m. m.1 < places) ms → NamesMoved old (take places new) ms
  names_end new next places m all below i d lt =
      let near : (get_or ms i d).1 < places = below i d lt in
      let at : get_or ms i (0, 0) ≡ get_or ms i d = get_or_default ms i (0, 0) d lt in
      get_or-take places new (get_or ms i d).1 (Formula 0) near
      ∙ ap (λ (p : ℕ × ℕ). name_at new p.1) (sym at) ∙ m.done i (omega arith)
      ∙ ap (λ (p : ℕ × ℕ). name_at old p.0) at
