-- The literals so far have the literal or not, and are otherwise false.
use Rattle.std.proofs.Common.{◌≡◌, false, take}
use Rattle.std.specs.List.{list_any}
use Rattle.cnf.specs.Literal.{literal_value}
use Rattle.cnf.specs.Clause.{contains_literal, without_literal}
use Rattle.cnf.specs.Bits.{assignment_of}
use Rattle.reconstruction.proofs.removals.is_needed.Given as goal

abbrev pub invariant-loop-lit : goal.invariant-loop-lit
invariant-loop-lit l = record {
  found : l.found ≡ contains_literal l.literal (take l.lit-index l.clause);
  others : list_any (literal_value (assignment_of l.bits))
      (without_literal l.literal (take l.lit-index l.clause)) ≡ false;
}
