use Rattle.std.proofs.Common.{◌≡◌, length, take, map}
use Rattle.lrat_live.specs.Listed.{listed_at}
use Rattle.lrat_machine.specs.Verdict.{walk}
use Rattle.lrat_machine.specs.Steps.{EndAlike}
use Rattle.lrat_machine.proofs.Effects.{ids_from}
use Rattle.lrat_machine.proofs.hints.walk.Given as goal

abbrev pub invariant-loop-i : goal.invariant-loop-i
invariant-loop-i l = record {
  walked : EndAlike (walk (listed_at l.live) l.fn.assumed.literals (map (λ h. h.1) l.hints))
      (walk (listed_at l.live) l.assumed.literals (ids_from l.hints l.i));
  kept : take (length l.fn.assumed.literals) l.assumed.literals ≡ l.fn.assumed.literals;
  variables : l.assumed.variables ≡ l.fn.assumed.variables;
}
