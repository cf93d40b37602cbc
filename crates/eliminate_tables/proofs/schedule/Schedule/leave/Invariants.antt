-- The literals so far are counted.
use Rattle.std.proofs.Common.{◌≡◌, take}
use Rattle.std.specs.Prelude.{fold}
use Rattle.eliminate_tables.specs.Schedule.{left}
use Rattle.eliminate_tables.proofs.schedule.Schedule.leave.Given as goal

abbrev pub invariant-loop-lit : goal.invariant-loop-lit
invariant-loop-lit l = l.self ≡ fold left l.fn.self (take l.lit-index l.lits)
