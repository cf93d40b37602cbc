use Rattle.std.proofs.Common.{◌≡◌, false, Some, take, ◌⊎◌}
use Rattle.std.specs.Prelude.{All}
use Rattle.propagate_trail.specs.Trail.{value_in}
use Rattle.propagate.proofs.not_false.find_other_not_false.Given as goal

abbrev pub invariant-loop-lit : goal.invariant-loop-lit
invariant-loop-lit l =
    All (λ x. (x ≡ l.but) ⊎ (value_in l.trail.assigned x ≡ Some false)) (take l.lit-index l.lits)
