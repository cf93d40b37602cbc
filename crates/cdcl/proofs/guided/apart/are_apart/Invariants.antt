-- The literals before the index are marked, and are of different variables. Where those from it on
-- have no greater variable, none has.
use Rattle.std.proofs.Common.{◌≡◌, ◌≤◌, ◌<◌, drop, false, length, take}
use Rattle.std.specs.Prelude.{All}
use Rattle.cnf.specs.Literal.{Literal}
use Rattle.cnf.specs.Clause.{greatest_variable, has_repeat, is_tautology}
use Rattle.cnf.specs.Marks.{IsMarked}
use Rattle.cdcl.proofs.guided.apart.are_apart.Given as goal

abbrev pub invariant-loop-lit : goal.invariant-loop-lit
invariant-loop-lit l = record {
  long : length l.marks ≡ length l.initial.marks;
  marked : IsMarked l.marks (take l.lit-index l.lits);
  once : has_repeat (take l.lit-index l.lits) ≡ false;
  apart : is_tautology (take l.lit-index l.lits) ≡ false;
  from_one : All (λ (k : Literal). 0 < k.variable) (take l.lit-index l.lits);
  low : greatest_variable (drop l.lit-index l.lits) ≤ l.variables
      → greatest_variable l.lits ≤ l.variables;
}
