-- Clauses, as lists of literals.
use Rattle.std.specs.Prelude.{◌≡◌, ℕ, ◌<◌, ◌≤◌, All, max, Bool, true, false, not, ◌||◌, List, []}
use Rattle.std.specs.Prelude.{◌∷◌, filter}
use Rattle.std.specs.Prelude.{if◌then◌else◌}
use Rattle.std.specs.List.{AllByRecursion, list_any}
use Rattle.cnf.specs.Literal.{Literal, Assignment, negation, literal_value, literal_eq}

-- true when some literal of it is; so the empty clause is never true
abbrev pub clause_value : Assignment → List Literal → Bool
clause_value t c = list_any (literal_value t) c

abbrev pub Satisfies : Assignment → List Literal → Type 0
Satisfies t c = clause_value t c ≡ true

abbrev pub contains_literal : Literal → List Literal → Bool
contains_literal l c = list_any (literal_eq l) c

-- the same literals, in any order
abbrev pub HaveSame : List Literal → List Literal → Type 0
HaveSame c d = (l : Literal) → contains_literal l c ≡ contains_literal l d

-- the clause less one literal
abbrev pub without_literal : Literal → List Literal → List Literal
without_literal l c = filter (λ k. not (literal_eq l k)) c

-- each literal once, at its first place
abbrev pub distinct : List Literal → List Literal
distinct [] = []
distinct (l ∷ c) = l ∷ without_literal l (distinct c)

-- some literal stands twice
abbrev pub has_repeat : List Literal → Bool
has_repeat [] = false
has_repeat (l ∷ c) = contains_literal l c || has_repeat c

-- some literal stands with its negation
abbrev pub is_tautology : List Literal → Bool
is_tautology [] = false
is_tautology (l ∷ c) = contains_literal (negation l) c || is_tautology c

abbrev pub is_empty_clause : List Literal → Bool
is_empty_clause [] = true
is_empty_clause (l ∷ c) = false

-- no literal has a variable above the number
abbrev pub IsClauseWithin : ℕ → List Literal → Type 0
IsClauseWithin variables c = All (λ l. l.variable ≤ variables) c

-- the variables of the literals are below n
abbrev pub AreBelow : ℕ → List Literal → Type 0
AreBelow n c = AllByRecursion (λ l. l.variable < n) c

abbrev pub greatest_variable : List Literal → ℕ
greatest_variable [] = 0
greatest_variable (l ∷ c) = max l.variable (greatest_variable c)

-- each literal of c is in d
abbrev pub is_subset : List Literal → List Literal → Bool
is_subset [] d = true
is_subset (l ∷ c) d = if contains_literal l d then is_subset c d else false

-- some clause of the list is a subset of the clause
abbrev pub IsCovered : List (List Literal) → List Literal → Type 0
IsCovered cs c = list_any (λ d. is_subset d c) cs ≡ true
