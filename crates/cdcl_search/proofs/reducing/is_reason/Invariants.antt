use Rattle.std.proofs.Common.{◌≡◌, Some, take}
use Rattle.std.specs.Prelude.{All}
use Rattle.propagate.specs.Trail.{reason_in}
use Rattle.cdcl_search.proofs.reducing.is_reason.Given as goal

abbrev pub invariant-loop-lit : goal.invariant-loop-lit
invariant-loop-lit l =
    All (λ k. reason_in l.engine.trail k.variable ≡ Some l.fn.reference → ⊥)
    (take l.lit-index l.lits)
