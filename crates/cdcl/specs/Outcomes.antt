-- What holds of a solver between its calls, and what a search answers.
use Rattle.std.specs.Prelude.{◌≡◌, ℕ, ◌+◌, ◌-◌, ◌<◌, Bool, false, not, List, length, Some, Result}
use Rattle.std.specs.Prelude.{slice_get, slice_index_or}
use Rattle.cnf.specs.Literal.{Literal}
use Rattle.cdcl_order.specs.Budgets.{BudgetState, left_of}
use Rattle.lrat_log.specs.Log.{LogLine, Given}
use Rattle.lrat_log.specs.Steps.{StaysLogOver}
use Rattle.cdcl_search.specs.declared.input.Input.{Input}
use Rattle.cdcl_search.specs.declared.search.Search.{Search}
use Rattle.cdcl.specs.declared.outcome.Outcome.{Outcome}
use Rattle.cdcl.specs.declared.outcome.Outcome.TheVariants.{Sat, Unsat, Limit}
use Rattle.cdcl_search.specs.Running.{is_refuted, Runs, IsEnded, IsInput}
use Rattle.cdcl.specs.Guiding.{WritesOpen}
use Rattle.cdcl.specs.Solving.{SatisfyGiven, answer_count}
use Rattle.propagate.specs.Trail.{Assigned, value_in}
use Rattle.cdcl_order.specs.Orders.{positive}

-- what holds of a solver between its calls
pub record IsSolver (s : Search) (p : Input) (ls : List LogLine) (failed : Bool) : Type 0 where
  pub input : IsInput p
  pub lines : StaysLogOver (length (p.frozen).items) p.given ls
  pub running : failed ≡ false → is_refuted ls ≡ false → Runs s p ls

-- What a search answers.

-- the bits are the values of the variables from 1, each of which has one
abbrev pub AreValues : List Assigned → List Bool → Type 0
AreValues T bits = (i : ℕ) → i < length bits
    → value_in T (positive (i + 1)) ≡ Some (slice_index_or bits i false)

-- the bits make the literal true
abbrev pub IsTrueUnder : List Bool → Literal → Type 0
IsTrueUnder bits l = slice_get bits (l.variable - 1) ≡ Some (not l.negated)

-- the bits satisfy what was given, and the search may go on
pub record IsSatisfying (s : Search) (p : Input) (ls : List LogLine)
    (bits : List Bool) : Type 0 where
  pub runs : Runs s p ls
  pub long : length bits ≡ length (p.frozen).items
  pub satisfied : SatisfyGiven bits p.given

abbrev pub IsAnswer : Search → Input → List LogLine → BudgetState → Outcome → Type 0
IsAnswer s p ls b (Sat bits) = IsSatisfying s p ls bits.items
IsAnswer s p ls b Unsat = IsEnded p ls
IsAnswer s p ls b Limit = Runs s p ls × (left_of b ≡ 0)

-- and a unit was paid for each line that was learned or came from outside, and for bits
abbrev pub PaysFor : {E : Type 0} → Result Outcome E → Given → List LogLine → List LogLine
    → BudgetState → BudgetState → Type 0
PaysFor answer given before after old new = (n : ℕ) × WritesOpen given before after n
    × (new ≡ record old {
      learned = old.learned + n;
      answers = old.answers + answer_count answer;
      waived = new.waived;
    })
