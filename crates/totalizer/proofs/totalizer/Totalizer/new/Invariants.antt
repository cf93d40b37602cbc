use Rattle.std.proofs.Common.{◌≡◌, ◌+◌, length}
use Rattle.std.specs.Prelude.{All}
use Rattle.totalizer.proofs.Laid.{HasNone}
use Rattle.totalizer.proofs.totalizer.Totalizer.new.Given as goal

abbrev pub invariant-loop : goal.invariant-loop
invariant-loop l = (length l.outputs.items + 1 ≡ l.counter) × All HasNone l.outputs.items
