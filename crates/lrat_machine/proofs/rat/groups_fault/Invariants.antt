use Rattle.std.proofs.Common.{◌≡◌}
use Rattle.lrat_live.specs.Listed.{listed_at}
use Rattle.lrat_machine.specs.Verdict.{groups_fault}
use Rattle.lrat_machine.proofs.Groups.{groups_from}
use Rattle.lrat_machine.proofs.rat.groups_fault.Given as goal

abbrev pub invariant-loop-i : goal.invariant-loop-i
invariant-loop-i l = record {
  same : l.assumed ≡ l.fn.assumed;
  rest : groups_fault (listed_at l.live) l.pivot l.fn.assumed.literals (groups_from l.hints 0)
      ≡ groups_fault (listed_at l.live) l.pivot l.fn.assumed.literals (groups_from l.hints l.i);
}
