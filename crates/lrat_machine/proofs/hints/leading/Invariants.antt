use Rattle.std.proofs.Common.{◌≡◌, take, drop, map, ◌++◌}
use Rattle.lrat_read.specs.Form.{leading}
use Rattle.lrat_machine.proofs.hints.leading.Given as goal

abbrev pub invariant-loop-i : goal.invariant-loop-i
invariant-loop-i l =
    leading l.hints ≡ map (λ h. h.1) (take l.i l.hints) ++ leading (drop l.i l.hints)
