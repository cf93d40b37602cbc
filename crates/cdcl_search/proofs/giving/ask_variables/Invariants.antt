-- The first literals have variables from 1.
use Rattle.std.proofs.Common.{◌<◌, take}
use Rattle.std.specs.Prelude.{All}
use Rattle.cnf.specs.Literal.{Literal}
use Rattle.cdcl_search.proofs.giving.ask_variables.Given as goal

abbrev pub invariant-loop-lit : goal.invariant-loop-lit
invariant-loop-lit l = All (λ (k : Literal). 0 < k.variable) (take l.lit-index l.lits)
