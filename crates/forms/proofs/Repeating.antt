-- Repeated variables, as literals are walked and marked.
use Rattle.std.proofs.Common.{◌≡◌, ℕ, ◌+◌, ◌<◌, Bool, true, ◌||◌, List, [], ◌∷◌, ◌++◌, length, take}
use Rattle.std.proofs.Common.{get_or, set, sym, ◌∙◌, ap, subst}
use Rattle.std.proofs.lemmas.List.{take_more}
use Rattle.cnf.specs.Literal.{Literal, negation, index_of}
use Rattle.cnf.specs.Clause.{has_repeat, is_tautology}
use Rattle.cnf.specs.Marks.{mark_of, IsMarked, HasPlace}
use Rattle.cnf.proofs.Laws.{marked_one, repeats-more, tautologies-more}

-- a step of the walk that marks
pub step : (marks : List Bool) (repeated complemented : Bool) (lits : List Literal) (i : ℕ)
    (l : Literal) → i < length lits → l ≡ get_or lits i l → HasPlace (length marks) l
    → IsMarked marks (take i lits) → repeated ≡ has_repeat (take i lits)
    → complemented ≡ is_tautology (take i lits)
    → IsMarked (set marks (index_of l) true) (take (i + 1) lits)
    × ((repeated || mark_of marks l) ≡ has_repeat (take (i + 1) lits))
    × ((complemented || mark_of marks (negation l)) ≡ is_tautology (take (i + 1) lits))
step marks repeated complemented lits i l h is p marked r t =
    let more : take (i + 1) lits ≡ take i lits ++ l ∷ [] =
    take_more lits i l h ∙ ap (λ x. take i lits ++ x ∷ []) (sym is) in (
      subst (IsMarked (set marks (index_of l) true)) (sym more)
          (marked_one marks (take i lits) l p marked),
      (λ j. r j || mark_of marks l)
          ∙ ap (λ b. has_repeat (take i lits) || b) (marked.marked l p.0)
          ∙ sym (repeats-more (take i lits) l) ∙ ap has_repeat (sym more),
      (λ j. t j || mark_of marks (negation l))
          ∙ ap (λ b. is_tautology (take i lits) || b) (marked.marked (negation l) p.0)
          ∙ sym (tautologies-more (take i lits) l) ∙ ap is_tautology (sym more),
    )
