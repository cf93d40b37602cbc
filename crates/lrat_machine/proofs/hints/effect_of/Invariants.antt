use Rattle.std.proofs.Common.{◌≡◌, ◌+◌, ◌<◌, ◌≤◌, length, take, Some}
use Rattle.std.specs.List.{last_or}
use Rattle.lrat_machine.specs.Verdict.{open_literals}
use Rattle.lrat_machine.proofs.hints.effect_of.Given as goal

abbrev pub invariant-loop-lit : goal.invariant-loop-lit
invariant-loop-lit l = record {
  last_open : Some l.last
      ≡ last_or (Some (l.initial).last)
      (open_literals l.assumed.literals (take l.lit-index l.clause));
  number : l.falses + length (open_literals l.assumed.literals (take l.lit-index l.clause))
      ≡ l.lit-index;
  within : 0 < length (open_literals l.assumed.literals (take l.lit-index l.clause))
      → l.last.variable ≤ l.assumed.variables;
}
