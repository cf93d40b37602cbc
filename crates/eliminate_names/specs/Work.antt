-- The work in hand: clauses in a store, each under a name, and the lines of the log so far.
use Rattle.std.specs.Prelude.{◌≡◌, ℕ, ◌+◌, ◌<◌, ◌≤◌, false, List, [], ◌∷◌, length, map}
use Rattle.std.specs.Prelude.{Some, None, All, slice_index_or}
use Rattle.cnf.specs.Literal.{Literal, negation}
use Rattle.cnf.specs.Clause.{has_repeat, is_tautology, greatest_variable}
use Rattle.cnf.specs.Formula.{IsFormulaClause}
use Rattle.cnf.specs.Refute.{Clauses, Refutes}
use Rattle.cnf.specs.Lrat.{IsId}
use Rattle.cnf.specs.declared.limits.TheConstants.{VARIABLE_LIMIT}
use Rattle.clauses.specs.Slots.{Slots, clause_at}
use Rattle.lrat_log.specs.declared.lines.Name.{Name}
use Rattle.lrat_log.specs.declared.lines.Name.TheVariants.{Formula, Added}
use Rattle.lrat_log.specs.declared.lines.Hint.TheVariants.{Plain}
use Rattle.lrat_log.specs.declared.lines.Kind.TheVariants.{Delete}
use Rattle.lrat_log.specs.Log.{LogLine, Given, id_of, number_in, is_delete, leading_ids, group_ids}
use Rattle.lrat_log.specs.Steps.{IsBaseOf, StaysLogOver, log_live, learned_count}
use Rattle.lrat_log.specs.Steps.{added_count}

-- the name of each clause of the store, and how many additions the log has
pub record NamesState : Type 0 where
  pub names : List Name
  pub additions : ℕ

abbrev pub name_at : List Name → ℕ → Name
name_at names r = slice_index_or names r (Formula 1)

-- the name of the addition after the first `before`
abbrev pub added_line : ℕ → Name
added_line before = Added (before + 1)

-- the live clauses are those of a formula from number n on; the name of another place means nothing
abbrev pub formula_names : ℕ → Slots → List Name
formula_names n [] = []
formula_names n (None ∷ slots) = Formula n ∷ formula_names n slots
formula_names n (Some c ∷ slots) = Formula n ∷ formula_names (n + 1) slots

abbrev pub delete_line : Name → LogLine
delete_line n = record { kind = Delete; clause = []; hints = Plain n ∷ [] }

-- the clauses of the store are just those that are live, each under an id of its own, up to the
-- last
pub record AreLiveAs (id : ℕ → ℕ) (slots : Slots) (at : Clauses) (last : ℕ) : Type 0 where
  pub named : (r : ℕ) (c : List Literal) → clause_at slots r ≡ Some c → at (id r) ≡ Some c
  pub only : (i : ℕ) (c : List Literal) → at i ≡ Some c → (r : ℕ) × (clause_at slots r ≡ Some c)
      × (id r ≡ i)
  pub differ : (r s : ℕ) (c d : List Literal) → clause_at slots r ≡ Some c
      → clause_at slots s ≡ Some d → id r ≡ id s → r ≡ s
  pub below : (r : ℕ) (c : List Literal) → clause_at slots r ≡ Some c → id r ≤ last

-- names and lines belong to the store
pub record IsNamed (given : Given) (slots : Slots) (names : List Name) (lines : List LogLine) : Type
    0 where
  pub long : length names ≡ length slots
  pub numbers : All (λ n. IsId (number_in n)) names
  pub live : (base : ℕ) → IsBaseOf given base
      → AreLiveAs (λ r. id_of base (name_at names r)) slots (log_live given base lines)
      (base + added_count lines)

-- each clause of the store is one of a formula with `variables` variables
abbrev pub AreClauses : ℕ → Slots → Type 0
AreClauses variables slots = (r : ℕ) (c : List Literal) → clause_at slots r ≡ Some c
    → IsFormulaClause variables c

-- what each move keeps: the log is one over the formula's clauses and learns nothing, and the store
-- holds what is live
pub record IsWork (first variables : ℕ) (given : Given) (slots : Slots) (names : List Name)
    (lines : List LogLine) : Type 0 where
  pub log : StaysLogOver first given lines
  pub none_learned : learned_count lines ≡ 0
  pub named : IsNamed given slots names lines
  pub clauses : AreClauses variables slots

-- a line whose clause its plain hints refute over the clauses given, whatever the base
pub record IsRupLine (given : Given) (ls : List LogLine) (l : LogLine) : Type 0 where
  pub adds : is_delete l.kind ≡ false
  pub no_repeat : has_repeat l.clause ≡ false
  pub no_tautology : is_tautology l.clause ≡ false
  pub small : greatest_variable l.clause < VARIABLE_LIMIT
  pub plain : (base : ℕ) → group_ids base l.hints ≡ []
  pub refutes : (base : ℕ) → IsBaseOf given base
      → Refutes (log_live given base ls) (map negation l.clause) (leading_ids base l.hints)
