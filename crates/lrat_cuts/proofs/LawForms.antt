-- Clauses that are heard, and new variables, in what holds of the forms.
use Rattle.std.proofs.Common.{◌≡◌, ℕ, ◌+◌, ◌-◌, true, false, List, [], ◌∷◌, inl, inr, refl, sym}
use Rattle.std.proofs.Common.{◌∙◌, arith}
use Rattle.std.proofs.lemmas.Int.{ints}
use Rattle.std.proofs.lemmas.Bool.{or_cases, false≢true}
use Rattle.cnf.specs.Literal.{Assignment, Literal, literal_value}
use Rattle.cnf.specs.Clause.{Satisfies}
use Rattle.cnf.specs.Problem.{Problem}
use Rattle.linear.specs.Costs.{CostForm, fixed_by, widened, width_of}
use Rattle.linear.proofs.Laws.{agrees_fixed, agrees_widened, fixed_length, value_widened}
use Rattle.linear.proofs.Laws.{widened_more, widened_wide}
use Rattle.forms.specs.Forms.{Forms, Numbered, heard}
use Rattle.lrat_cuts.proofs.LawMeaning.{FormHolds, IsCheap, holds_form}

-- the forms of a state of lines
abbrev pub Holds : Problem → ℕ → Forms → Type 0
Holds p k f = FormHolds p k f.variables f.form f.numbered

one_true : (t : Assignment) (l : Literal) → Satisfies t (l ∷ []) → literal_value t l ≡ true
one_true t l e = elim (or_cases (literal_value t l) false e) [
  | inl h ↦ h
  | inr h ↦ absurd (false≢true h)
]

-- a unit clause gives its variable a value
fixed_holds : (p : Problem) (k v : ℕ) (f : CostForm) (ns : List Numbered) (l : Literal)
    → FormHolds p k v f ns
    → ((t : Assignment) → IsCheap p k ns t → literal_value t l ≡ true)
    → (let wide = widened (l.variable + 1) f in
    FormHolds p k v (record wide { fixed = fixed_by l wide.fixed }) ns)
fixed_holds p k v f ns l h on =
    let wide = widened (l.variable + 1) f in
    let has = widened_wide (l.variable + 1) f h.wide in
    let same = fixed_length l wide.fixed in
    holds_form p k v f (record wide { fixed = fixed_by l wide.fixed }) ns h
    (record { cost = has.cost ∙ sym same; added = has.added ∙ sym same })
    (omega (arith, widened_more (l.variable + 1) f, same))
    (λ t. value_widened ((l.variable + 1) - width_of f) f.cost t)
    (λ t c. agrees_fixed l wide.fixed t (agrees_widened (l.variable + 1) f t (h.fixed t c))
    (on t c))
    (λ t c. let e = value_widened ((l.variable + 1) - width_of f) f.added t in
    omega (arith, ints, e))

-- a clause that is true wherever it matters
pub heard_holds : (p : Problem) (k : ℕ) (f : Forms) (c : List Literal) → Holds p k f
    → ((t : Assignment) → IsCheap p k f.numbered t → Satisfies t c) → Holds p k (heard c f)
heard_holds p k f [] h on = h
heard_holds p k f (l ∷ []) h on =
    fixed_holds p k f.variables f.form f.numbered l h (λ t c. one_true t l (on t c))
heard_holds p k f (l ∷ m ∷ c) h on = h

pub heard_numbered : (c : List Literal) (f : Forms) → (heard c f).numbered ≡ f.numbered
heard_numbered [] f = refl
heard_numbered (l ∷ []) f = refl
heard_numbered (l ∷ m ∷ c) f = refl
