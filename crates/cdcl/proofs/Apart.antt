-- Literals of different variables, as they are walked and marked.
use Rattle.std.proofs.Common.{◌≡◌, ℕ, ◌+◌, ◌<◌, ◌≤◌, ◌⊎◌, Bool, true, false, ◌||◌, List, []}
use Rattle.std.proofs.Common.{◌∷◌, ◌++◌, length, take, drop, get_or, set, sym, ◌∙◌, ap, subst}
use Rattle.std.proofs.Common.{inl, inr, arith, take-append-drop}
use Rattle.std.proofs.lemmas.Bool.{false≢true, or_cases, or_left, or_right}
use Rattle.std.proofs.lemmas.List.{take_more}
use Rattle.cnf.specs.Literal.{Literal, negation, index_of}
use Rattle.cnf.specs.Clause.{contains_literal, greatest_variable, has_repeat, is_tautology}
use Rattle.cnf.specs.Marks.{mark_of, IsMarked, HasPlace}
use Rattle.cnf.proofs.Laws.{absent_above, at_contains, contains_front, marked_one}
use Rattle.cnf.proofs.Laws.{repeats-more, tautologies-more}
use Rattle.lrat_log.specs.Axioms.{IsNewClause}

pub step : (marks : List Bool) (lits : List Literal) (i : ℕ) (l : Literal) → i < length lits
    → l ≡ get_or lits i l → HasPlace (length marks) l → IsMarked marks (take i lits)
    → has_repeat (take i lits) ≡ false → is_tautology (take i lits) ≡ false
    → mark_of marks l ≡ false → mark_of marks (negation l) ≡ false
    → IsMarked (set marks (index_of l) true) (take (i + 1) lits)
    × (has_repeat (take (i + 1) lits) ≡ false) × (is_tautology (take (i + 1) lits) ≡ false)
step marks lits i l h is p marked once apart own negated =
    let more : take (i + 1) lits ≡ take i lits ++ l ∷ [] =
    take_more lits i l h ∙ ap (λ x. take i lits ++ x ∷ []) (sym is) in (
      subst (IsMarked (set marks (index_of l) true)) (sym more)
          (marked_one marks (take i lits) l p marked),
      ap has_repeat more ∙ repeats-more (take i lits) l
          ∙ (λ j. once j || (sym (marked.marked l p.0) ∙ own) j),
      ap is_tautology more ∙ tautologies-more (take i lits) l
          ∙ (λ j. apart j || (sym (marked.marked (negation l) p.0) ∙ negated) j),
    )

-- what is not apart at its front is not so as a whole
repeats_on : (c d : List Literal) → has_repeat c ≡ true → has_repeat (c ++ d) ≡ true
repeats_on [] d h = absurd (false≢true h)
repeats_on (l ∷ c) d h =
    elim (or_cases (contains_literal l c) (has_repeat c) h) [
      | inl t ↦
          or_left (contains_literal l (c ++ d)) (has_repeat (c ++ d)) (contains_front l c d t)
      | inr t ↦ or_right (contains_literal l (c ++ d)) (has_repeat (c ++ d)) (repeats_on c d t)
    ]

tautologies_on : (c d : List Literal) → is_tautology c ≡ true → is_tautology (c ++ d) ≡ true
tautologies_on [] d h = absurd (false≢true h)
tautologies_on (l ∷ c) d h =
    elim (or_cases (contains_literal (negation l) c) (is_tautology c) h) [
      | inl t ↦ or_left (contains_literal (negation l) (c ++ d)) (is_tautology (c ++ d))
          (contains_front (negation l) c d t)
      | inr t ↦ or_right (contains_literal (negation l) (c ++ d)) (is_tautology (c ++ d))
          (tautologies_on c d t)
    ]

-- one that is marked, or whose negation is, is not the first of its variable
pub met : (marks : List Bool) (lits : List Literal) (i : ℕ) (l : Literal) → i < length lits
    → l ≡ get_or lits i l → 0 < l.variable → IsMarked marks (take i lits)
    → (mark_of marks l ≡ true) ⊎ (mark_of marks (negation l) ≡ true) → IsNewClause lits → ⊥
met marks lits i l h is some marked m new =
    let front = take i lits in
    let next = take (i + 1) lits in
    let rest = drop (i + 1) lits in
    let more : next ≡ front ++ l ∷ [] =
    take_more lits i l h ∙ ap (λ x. front ++ x ∷ []) (sym is) in
    let whole : next ++ rest ≡ lits = take-append-drop (i + 1) lits in
    elim m [
      | inl own ↦
          let twice : has_repeat next ≡ true =
          ap has_repeat more ∙ repeats-more front l ∙ or_right (has_repeat front)
          (contains_literal l front) (sym (marked.marked l some) ∙ own) in
          false≢true (sym new.no_repeat ∙ sym (ap has_repeat whole) ∙ repeats_on next rest twice)
      | inr other ↦
          let both : is_tautology next ≡ true =
          ap is_tautology more ∙ tautologies-more front l ∙ or_right (is_tautology front)
          (contains_literal (negation l) front) (sym (marked.marked (negation l) some) ∙ other) in
          false≢true (sym new.no_tautology ∙ sym (ap is_tautology whole)
          ∙ tautologies_on next rest both)
    ]

-- one of a greater variable is none of a clause on smaller ones
pub past : (lits : List Literal) (i v : ℕ) (l : Literal) → i < length lits → l ≡ get_or lits i l
    → v < l.variable → greatest_variable lits ≤ v → ⊥
past lits i v l h is above low = false≢true
    (sym (absent_above l lits (omega (arith, above, low))) ∙ at_contains lits i l h is)
