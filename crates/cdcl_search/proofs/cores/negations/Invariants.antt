use Rattle.std.proofs.Common.{◌≡◌, map, take}
use Rattle.cnf.specs.Literal.{negation}
use Rattle.cdcl_search.proofs.cores.negations.Given as goal

abbrev pub invariant-loop-lit : goal.invariant-loop-lit
invariant-loop-lit l = l.negated.items ≡ map negation (take l.lit-index l.lits)
