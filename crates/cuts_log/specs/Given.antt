-- The clauses of the formula that are live, as a log has them.
use Rattle.std.specs.Prelude.{◌≡◌, ℕ, zero, suc, ◌-◌, Bool, true, false, List, [], ◌∷◌, length}
use Rattle.std.specs.Prelude.{replicate, Some, None, slice_get, slice_index_or, slice_set}
use Rattle.std.specs.Prelude.{if◌then◌else◌}
use Rattle.cnf.specs.Literal.{Literal}
use Rattle.cnf.specs.Refute.{Clauses}
use Rattle.lrat_live.specs.Listed.{Listed, listed_at}
use Rattle.lrat_log.specs.declared.lines.Hint.{Hint}
use Rattle.lrat_log.specs.declared.lines.Name.{Name}
use Rattle.lrat_log.specs.declared.lines.Name.TheVariants.{Formula, Added}
use Rattle.lrat_log.specs.Log.{name_of}

pub record FormulaState : Type 0 where
  -- all clauses, that with number 1 first
  pub clauses : List (List Literal)
  -- whether each is live
  pub live : List Bool

-- no clause was deleted yet
abbrev pub all_live : List (List Literal) → FormulaState
all_live cs = record { clauses = cs; live = replicate (length cs) true }

-- the clause with a number, where it is live
abbrev pub formula_at : FormulaState → Clauses
formula_at f zero = None
formula_at f (suc i) = if slice_index_or f.live i false then slice_get f.clauses i else None

-- one that was added is none of the formula
abbrev pub without_name : Name → List Bool → List Bool
without_name (Formula i) live = slice_set live (i - 1) false
without_name (Added j) live = live

abbrev pub without_names : List Hint → List Bool → List Bool
without_names [] live = live
without_names (h ∷ hs) live = without_names hs (without_name (name_of h) live)

-- the clauses that these name are live no more
abbrev pub deleted : List Hint → FormulaState → FormulaState
deleted hs f = record f { live = without_names hs f.live }

-- each clause of the formula that the log has is live for the checker
abbrev pub AreLive : FormulaState → Listed → Type 0
AreLive f es =
    (i : ℕ) (c : List Literal) → formula_at f i ≡ Some c → listed_at es i ≡ Some c
