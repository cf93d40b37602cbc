-- The hard clauses as a formula, and the formula for 'cost below k'.
use Rattle.std.specs.Prelude.{ℕ, zero, suc, ◌+◌, ◌*◌, ◌/◌, ◌^◌, ◌<◌, ◌≤◌, not, List, []}
use Rattle.std.specs.Prelude.{◌∷◌, ◌++◌, length, map, filter, reverse, Option, Some, None, ◌==◌}
use Rattle.std.specs.Prelude.{if◌then◌else◌, All}
use Rattle.std.specs.List.{flat_map}
use Rattle.std.specs.Fmt.{decimal}
use lib.Chars.{codes}
use Rattle.cnf.specs.Literal.{Assignment, Literal, negation, positive}
use Rattle.cnf.specs.Clause.{Satisfies, IsCovered, distinct, is_tautology}
use Rattle.cnf.specs.Formula.{Cnf}
use Rattle.cnf.specs.Problem.{Problem, IsFeasible, cost_under}
use Rattle.text.specs.Text.{literal_text}
use Rattle.text.specs.Writing.{spaced}
use Rattle.adder.specs.declared.cells.Cell.{Cell}
use Rattle.adder.specs.declared.profiles.Profile.{Profile}
use Rattle.adder.specs.declared.profiles.Profile.TheVariants.{One}
use Rattle.adder.specs.Network.{adders_as, bit, relaxed_as, relaxed_variables, SameUpTo}

-- repeats dropped, and clauses with complementary literals left out
abbrev pub kept : List (List Literal) → List (List Literal)
kept cs = filter (λ c. not (is_tautology c)) (map distinct cs)

abbrev pub hard_cnf : Problem → Cnf
hard_cnf p = record { variables = p.variables; clauses = kept p.hard }

abbrev pub no : Literal → Literal
no l = negation l

-- a full adder, and a half adder
abbrev pub full_clauses : Literal → Literal → Literal → Literal → Literal → List (List Literal)
full_clauses a b d s c =
    (a ∷ b ∷ d ∷ no s ∷ []) ∷ (a ∷ b ∷ no d ∷ s ∷ [])
    ∷ (a ∷ no b ∷ d ∷ s ∷ []) ∷ (a ∷ no b ∷ no d ∷ no s ∷ [])
    ∷ (no a ∷ b ∷ d ∷ s ∷ []) ∷ (no a ∷ b ∷ no d ∷ no s ∷ [])
    ∷ (no a ∷ no b ∷ d ∷ no s ∷ []) ∷ (no a ∷ no b ∷ no d ∷ s ∷ [])
    ∷ (a ∷ b ∷ no c ∷ []) ∷ (a ∷ d ∷ no c ∷ []) ∷ (b ∷ d ∷ no c ∷ [])
    ∷ (no a ∷ no b ∷ c ∷ []) ∷ (no a ∷ no d ∷ c ∷ []) ∷ (no b ∷ no d ∷ c ∷ []) ∷ []

abbrev pub half_clauses : Literal → Literal → Literal → Literal → List (List Literal)
half_clauses a b s c =
    (a ∷ b ∷ no s ∷ []) ∷ (a ∷ no b ∷ s ∷ []) ∷ (no a ∷ b ∷ s ∷ []) ∷ (no a ∷ no b ∷ no s ∷ [])
    ∷ (a ∷ no c ∷ []) ∷ (b ∷ no c ∷ []) ∷ (no a ∷ no b ∷ c ∷ []) ∷ []

abbrev pub cell_clauses : Cell → List (List Literal)
cell_clauses cell = by cell.third
  where
    by : Option Literal → List (List Literal)
    by None = half_clauses cell.a cell.b (positive cell.sum) (positive cell.carry)
    by (Some d) = full_clauses cell.a cell.b d (positive cell.sum) (positive cell.carry)

-- the soft clauses that have a fresh variable, each with that last
abbrev pub relaxed_clauses : Profile → Problem → List (List Literal)
relaxed_clauses profile p =
    map (λ e. (e.soft).clause ++ e.literal ∷ []) (filter (λ e. e.is_fresh) (relaxed_as profile p))

-- -s for each output of outputs, where its bit of the limit from column j on is set; None where
-- such an output is missing
abbrev pub above : List (Option Literal) → ℕ → ℕ → Option (List Literal)
above [] limit j = none_set limit j
  where
    none_set : ℕ → ℕ → Option (List Literal)
    none_set m i = if m / 2 ^ i == 0 then Some [] else None
above (o ∷ outputs) limit j =
    if bit limit j then with o (above outputs limit (j + 1)) else above outputs limit (j + 1)
  where
    with : Option Literal → Option (List Literal) → Option (List Literal)
    with None more = None
    with (Some v) None = None
    with (Some v) (Some c) = Some (no v ∷ c)

-- the clause of each column whose bit is not set, from the lowest up
abbrev pub rising_clauses : List (Option Literal) → ℕ → ℕ → List (List Literal)
rising_clauses [] limit j = []
rising_clauses (o ∷ outputs) limit j =
    (if bit limit j then [] else led o (above outputs limit (j + 1)))
    ++ rising_clauses outputs limit (j + 1)
  where
    led : Option Literal → Option (List Literal) → List (List Literal)
    led None more = []
    led (Some v) None = []
    led (Some v) (Some c) = (no v ∷ c) ∷ []

-- the value of the outputs is below k
abbrev pub comparator_of : List (Option Literal) → ℕ → List (List Literal)
comparator_of outputs zero = [] ∷ []
comparator_of outputs (suc limit) = kept (reverse (rising_clauses outputs limit 0))

-- all but the comparator
abbrev pub fixed_clauses : Profile → Problem → List (List Literal)
fixed_clauses profile p =
    kept p.hard ++ kept (relaxed_clauses profile p)
    ++ kept (flat_map cell_clauses (adders_as profile p).cells)

abbrev pub comparator_for : Profile → Problem → ℕ → List (List Literal)
comparator_for profile p k = comparator_of (adders_as profile p).outputs k

abbrev pub bound_as : Profile → Problem → ℕ → Cnf
bound_as profile p k = record {
  variables = relaxed_variables profile p + 2 * length (adders_as profile p).cells;
  clauses = fixed_clauses profile p ++ comparator_for profile p k;
}

abbrev pub bound_cnf : Problem → ℕ → Cnf
bound_cnf p k = bound_as One p k

-- the law: an assignment of the formula is a cheaper solution, and each cheaper solution extends to
-- one
pub record SaysCheaper (profile : Profile) (p : Problem) (k : ℕ) : Type 0 where
  pub to : (t : Assignment) → All (Satisfies t) (bound_as profile p k).clauses
      → IsFeasible p t × (cost_under p t < k)
  pub from : (u : Assignment) → IsFeasible p u → cost_under p u < k
      → (t : Assignment) × SameUpTo p.variables u t
      × All (Satisfies t) (bound_as profile p k).clauses

-- each clause of the comparator for a larger bound has one for this bound as a subset
abbrev pub CoversLarger : List (Option Literal) → ℕ → Type 0
CoversLarger outputs k =
    (larger : ℕ) → k ≤ larger
    → All (IsCovered (comparator_of outputs k)) (comparator_of outputs larger)

-- the DIMACS text
abbrev pub header_line : ℕ → ℕ → List ℕ
header_line variables count =
    spaced (codes "p" ∷ codes "cnf" ∷ decimal variables ∷ decimal count ∷ [])

abbrev pub dimacs_header : Cnf → List ℕ
dimacs_header f = header_line f.variables (length f.clauses)

abbrev pub dimacs_clause : List Literal → List ℕ
dimacs_clause c = spaced (map literal_text c ++ codes "0" ∷ [])

abbrev pub dimacs_text : Cnf → List ℕ
dimacs_text f = dimacs_header f ++ flat_map dimacs_clause f.clauses
