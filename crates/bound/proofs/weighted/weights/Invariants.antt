-- What was pushed, with what the soft clauses that are left give, is the whole.
use Rattle.std.proofs.Common.{◌≡◌, ◌+◌, ◌*◌, ◌≤◌, ◌<◌, ◌++◌, length, map, drop}
use Rattle.adder.specs.Network.{relaxed_from}
use Rattle.adder.specs.declared.profiles.Relaxing.TheVariants.{UnitsByNegation}
use Rattle.adder.specs.Parts.{weight_in}
use Rattle.bound.specs.Weighted.{weights_in, weights_of}
use Rattle.bound.proofs.weighted.weights.Given as goal

abbrev pub invariant-loop-soft : goal.invariant-loop-soft
invariant-loop-soft l = record {
  few : l.fresh ≤ l.fn.instance.variables + 1 + l.soft-index;
  from_one : 0 < l.fresh;
  marks : length l.marks ≡ 2 * l.fn.instance.variables;
  whole : map weight_in l.weights.items
      ++ weights_in
      (relaxed_from UnitsByNegation l.fresh (drop l.soft-index l.fn.instance.soft))
      ≡ weights_of l.fn.instance;
}
