-- The certificate with which a search goes on.
use Rattle.std.specs.Prelude.{ℕ, Bool, ⊤, Option, Some, None, nat_le}
use Rattle.cnf.specs.Problem.{Problem}
use Rattle.cnf.specs.declared.limits.TheConstants.{NUMBER_LIMIT}
use Rattle.cuts_log.specs.Starts.{IsReached}
use Rattle.wmax_opening.specs.declared.inputs.FirstSolution.{FirstSolution}
use Rattle.wmax_opening.specs.declared.resuming.Origin.{Origin}
use Rattle.wmax_opening.specs.declared.resuming.Origin.TheVariants.{Blank, Behind, Shown}

-- lines were judged by the instance that was read
abbrev pub IsFor : Option Problem → Origin → Type 0
IsFor p Blank = ⊤
IsFor p Shown = ⊤
IsFor None (Behind e) = ⊥
IsFor (Some p) (Behind e) = IsReached p (e.machine).state

-- whether a search can begin with this, where lines hold only for what costs less than `worth`
abbrev pub is_enough : Option FirstSolution → ℕ → Bool
is_enough None worth = nat_le NUMBER_LIMIT worth
is_enough (Some s) worth = nat_le s.cost worth
