use Rattle.std.proofs.Common.{◌≡◌, ◌++◌}
use Rattle.lrat_machine.proofs.Groups.{named_from}
use Rattle.lrat_machine.proofs.rat.candidates_of.Given as goal

abbrev pub invariant-loop-hint : goal.invariant-loop-hint
invariant-loop-hint l = named_from l.hints 0 ≡ l.ids.items ++ named_from l.hints l.hint-index
