use Rattle.std.proofs.Common.{◌≡◌, ◌+◌, length}
use Rattle.cdcl.specs.Outcomes.{AreValues}
use Rattle.cdcl.proofs.answers.read_values.Given as goal

abbrev pub invariant-loop-variable : goal.invariant-loop-variable
invariant-loop-variable l = record {
  many : length l.bits.items + 1 ≡ l.variable;
  read : AreValues l.search.engine.trail l.bits.items;
}
