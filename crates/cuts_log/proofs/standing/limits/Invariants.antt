-- The variables of the literals before the index can be spelled.
use Rattle.std.proofs.Common.{ℕ, ◌<◌, get_or}
use Rattle.cnf.specs.Literal.{Literal}
use Rattle.cnf.specs.Lrat.{IsId}
use Rattle.cuts_log.proofs.standing.limits.Given as goal

abbrev pub invariant-loop-lit : goal.invariant-loop-lit
invariant-loop-lit l =
    (k : ℕ) (d : Literal) → k < l.lit-index → IsId (get_or l.lits k d).variable
