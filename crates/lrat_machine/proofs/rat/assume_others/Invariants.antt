use Rattle.std.proofs.Common.{◌≡◌, ◌++◌, length, map, take}
use Rattle.cnf.specs.Literal.{negation}
use Rattle.cnf.specs.Clause.{without_literal}
use Rattle.lrat_machine.specs.Steps.{HaveSame}
use Rattle.lrat_machine.proofs.rat.assume_others.Given as goal

abbrev pub invariant-loop-lit : goal.invariant-loop-lit
invariant-loop-lit l = record {
  same : HaveSame (map negation (without_literal l.left_out (take l.lit-index l.clause))
      ++ l.fn.assumed.literals) l.assumed.literals;
  kept : take (length l.fn.assumed.literals) l.assumed.literals ≡ l.fn.assumed.literals;
  variables : l.assumed.variables ≡ l.fn.assumed.variables;
}
