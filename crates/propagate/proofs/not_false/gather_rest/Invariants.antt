use Rattle.std.proofs.Common.{take}
use Rattle.propagate.specs.Fits.{IsRest}
use Rattle.propagate.proofs.not_false.gather_rest.Given as goal

abbrev pub invariant-loop-lit : goal.invariant-loop-lit
invariant-loop-lit l = IsRest (take l.lit-index l.lits) l.one l.other l.rest
