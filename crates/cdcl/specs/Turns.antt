-- Rounds of a search.
use Rattle.std.specs.Prelude.{ℕ, ◌+◌, List, length, if◌then◌else◌, ◌<◌, ◌-◌, ◌*◌}
use Rattle.propagate.specs.Trail.{literals_of}
use Rattle.analyze.specs.Analyzer.{IsFixpoint}
use Rattle.cdcl_order.specs.Budgets.{BudgetState, left_of}
use Rattle.lrat_log.specs.Log.{LogLine}
use Rattle.cdcl_search.specs.declared.input.Input.{Input}
use Rattle.cdcl_search.specs.declared.search.Search.{Search}
use Rattle.cdcl_search.specs.Running.{Runs}
use Rattle.cdcl_order.specs.Orders.{AreClosed}

-- each variable has a value, no clause is false, and the answer can be paid for
pub record IsSatisfied (s : Search) (p : Input) (ls : List LogLine)
    (b : BudgetState) : Type 0 where
  pub runs : Runs s p ls
  pub fixpoint : IsFixpoint (s.store).slots (literals_of (s.engine).trail)
  pub closed : AreClosed (s.engine).trail (s.engine).variables
  pub left : 0 < left_of b

-- Each round learns and pays a unit, restarts after something was learned, or makes one more
-- literal true.
abbrev pub rounds_left : Search → BudgetState → ℕ
rounds_left s b =
    (2 * left_of b + (if (s.policy).has_learned then 1 else 0)) * ((s.engine).variables + 2)
    + ((s.engine).variables + 1 - length (s.engine).trail)

-- after a round the search goes on, and fewer are left
pub record RoundGoesOn (old new : Search) (p : Input) (ls : List LogLine)
    (before after : BudgetState) : Type 0 where
  pub runs : Runs new p ls
  pub fewer : rounds_left new after < rounds_left old before
