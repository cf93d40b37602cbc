-- The weights so far are added.
use Rattle.std.proofs.Common.{◌≡◌, ◌+◌, map, take}
use Rattle.std.specs.List.{sum_by}
use Rattle.adder.specs.Parts.{weight_in}
use Rattle.linear.specs.Costs.{form_of}
use Rattle.forms.proofs.state.Forms.new.Given as goal

abbrev pub invariant-loop-weight : goal.invariant-loop-weight
invariant-loop-weight l = record {
  form : l.bound.form
      ≡ form_of (l.fn.variables + 1) (map weight_in (take l.weight-index l.weights));
  sum : l.bound.weights ≡ sum_by (λ r. r.weight) (take l.weight-index l.weights);
  mass : l.bound.mass ≡ 0;
}
