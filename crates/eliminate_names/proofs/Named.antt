-- The names of the clauses of a formula, in the order of the store.
use Rattle.std.proofs.Common.{◌≡◌, ℕ, zero, suc, ◌+◌, ◌<◌, List, [], ◌∷◌, ◌++◌, length, drop, Some}
use Rattle.std.proofs.Common.{None, refl, sym, ◌∙◌, ap, arith, add-one, append_assoc}
use Rattle.std.proofs.lemmas.Option.{none-some}
use Rattle.cnf.specs.Literal.{Literal}
use Rattle.clauses.specs.Slots.{Slots, clause_at}
use Rattle.lrat_log.specs.declared.lines.Name.{Name}
use Rattle.lrat_log.specs.declared.lines.Name.TheVariants.{Formula}
use Rattle.eliminate_names.specs.Work.{formula_names}

-- the next place has a clause
pub names_some : (n i : ℕ) (slots : Slots) (c : List Literal) → clause_at slots i ≡ Some c
    → formula_names n (drop i slots) ≡ Formula n ∷ formula_names (n + 1) (drop (suc i) slots)
names_some n i [] c e = absurd (none-some c e)
names_some n zero (None ∷ slots) c e = absurd (none-some c e)
names_some n zero (Some d ∷ slots) c e = refl
names_some n (suc i) (x ∷ slots) c e = names_some n i slots c e

-- or none
pub names_none : (n i : ℕ) (slots : Slots) → i < length slots → clause_at slots i ≡ None
    → formula_names n (drop i slots) ≡ Formula n ∷ formula_names n (drop (suc i) slots)
names_none n i [] h e = absurd (omega arith)
names_none n zero (None ∷ slots) h e = refl
names_none n zero (Some d ∷ slots) h e = absurd (none-some d (sym e))
names_none n (suc i) (x ∷ slots) h e = names_none n i slots (omega arith) e

pub names_pushed : (items pushed all : List Name) (n m i : ℕ) (slots : Slots)
    → pushed ≡ items ++ Formula n ∷ []
    → formula_names n (drop i slots) ≡ Formula n ∷ formula_names m (drop (suc i) slots)
    → items ++ formula_names n (drop i slots) ≡ all
    → pushed ++ formula_names m (drop (i + 1) slots) ≡ all
names_pushed items pushed all n m i slots p s h =
    let rest : List Name = formula_names m (drop (suc i) slots) in
    rw add-one (ap (λ xs. xs ++ rest) p ∙ append_assoc items (Formula n ∷ []) rest
    ∙ sym (ap (λ ys. items ++ ys) s) ∙ h)
