use Rattle.std.proofs.Common.{take}
use Rattle.std.specs.Prelude.{All, Contains}
use Rattle.cnf.specs.Literal.{negation}
use Rattle.cdcl_search.proofs.cores.are_assumed.Given as goal

abbrev pub invariant-loop-lit : goal.invariant-loop-lit
invariant-loop-lit l =
    All (λ k. Contains l.assumptions (negation k)) (take l.lit-index l.lits)
