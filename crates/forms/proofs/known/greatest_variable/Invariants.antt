-- The greatest so far, with that of the literals that are left, is the greatest of all.
use Rattle.std.proofs.Common.{◌≡◌, ◌<◌, ◌^◌, drop, get_or, ℕ}
use Rattle.std.specs.Prelude.{max}
use Rattle.cnf.specs.Literal.{Literal}
use Rattle.cnf.specs.Clause.{greatest_variable}
use Rattle.forms.proofs.known.greatest_variable.Given as goal

abbrev pub invariant-loop-lit : goal.invariant-loop-lit
invariant-loop-lit l = record {
  whole : max l.greatest (greatest_variable (drop l.lit-index l.lits)) ≡ greatest_variable l.lits;
  small : l.greatest < 2 ^ 27;
  from_one : (k : ℕ) (d : Literal) → k < l.lit-index → 0 < (get_or l.lits k d).variable;
}
