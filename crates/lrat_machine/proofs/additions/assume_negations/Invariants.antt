use Rattle.std.proofs.Common.{◌≡◌, ◌≤◌, false, map, take}
use Rattle.cnf.specs.Literal.{negation}
use Rattle.cnf.specs.Clause.{has_repeat, is_tautology, IsClauseWithin}
use Rattle.lrat_machine.proofs.additions.assume_negations.Given as goal

abbrev pub invariant-loop-lit : goal.invariant-loop-lit
invariant-loop-lit l = record {
  negated : l.assumed.literals ≡ map negation (take l.lit-index l.clause);
  single : has_repeat (take l.lit-index l.clause) ≡ false;
  apart : is_tautology (take l.lit-index l.clause) ≡ false;
  within : IsClauseWithin l.assumed.variables (take l.lit-index l.clause);
  more : l.fn.assumed.variables ≤ l.assumed.variables;
}
