use Rattle.std.proofs.Common.{◌≤◌, take}
use Rattle.cnf.specs.Clause.{IsClauseWithin}
use Rattle.lrat_machine.proofs.rup.grow_to.Given as goal

abbrev pub invariant-loop-lit : goal.invariant-loop-lit
invariant-loop-lit l = record {
  within : IsClauseWithin l.assumed.variables (take l.lit-index l.lits);
  more : l.fn.assumed.variables ≤ l.assumed.variables;
}
