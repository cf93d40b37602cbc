-- There are as many clauses as the parts have together, and so few.
use Rattle.std.proofs.Common.{◌≡◌, ◌++◌, ◌+◌, ◌<◌, ◌^◌, List, All, length, sym, ap, subst, arith}
use Rattle.std.proofs.Common.{◌∙◌}
use Rattle.adder.specs.declared.cells.Cell.{Cell}
use Rattle.adder.specs.Network.{Adders}
use Rattle.bound.specs.Bound.{bound_as, kept, comparator_for, comparator_of, relaxed_clauses}
use Rattle.bound.specs.Adding.{HasVariables}
use Rattle.bound.proofs.Fits.{cells_variables}
use Rattle.bound.proofs.Few.{clauses_few}
use Rattle.bound.proofs.Streams.{sum_is}
use Rattle.bound.proofs.encoding.Outline.of.Goals as goal
use Rattle.bound.proofs.encoding.Outline.of.Goals.{After-len-last_part}

pub count_cells-requires-clause-variables : goal.count_cells-requires-clause-variables
count_cells-requires-clause-variables c =
    let P : List Cell → Type 0 = λ x. All HasVariables x in
    subst P (sym (ap (λ (n : Adders). n.cells) c.in_ok-network.ensures.cells))
    (cells_variables c.args.profile c.args.instance.now c.limits.ensures)

module _ (c : After-len-last_part) where
  relaxed_is : c.keep_relaxed.new.clauses
      ≡ kept (relaxed_clauses c.args.profile c.args.instance.now)
  relaxed_is =
      c.in_ok-last.ensures.clauses
      ∙ ap (λ z. z ++ kept (relaxed_clauses c.args.profile c.args.instance.now))
      c.new-relaxed.ensures

  compared_is : c.keep_comparator.new.clauses
      ≡ comparator_for c.args.profile c.args.instance.now c.args.k
  compared_is =
      c.in_ok-keep_comparator.ensures
      ∙ (λ i. c.new-comparator.ensures i ++ comparator_of
      ((c.outputs.ensures ∙ ap (λ (n : Adders). n.outputs) c.in_ok-network.ensures.cells) i)
      c.args.k)

  whole : c.count_hard-hard.result + c.len-soft.result + c.in_ok-cells.cells
      + c.len-last_part.result
      ≡ length (bound_as c.args.profile c.args.instance.now c.args.k).clauses
  whole =
      sum_is c.args.profile c.args.instance.now c.args.k _ _ c.in_ok-network.network
      relaxed_is c.in_ok-network.ensures.cells compared_is _ _ _ _
      c.count_hard-hard.ensures.count c.len-soft.ensures c.in_ok-cells.ensures
      c.len-last_part.ensures

  small : c.count_hard-hard.result + c.len-soft.result + c.in_ok-cells.cells
      + c.len-last_part.result < 2 ^ 28
  small =
      subst (λ z. z < 2 ^ 28) (sym whole)
      (clauses_few c.args.profile c.args.instance.now c.args.k c.limits.ensures)

pub overflow_add-count : goal.overflow_add-count
overflow_add-count c = omega (arith, small (goal.at.overflow_add-count c).After-len-last_part)

pub overflow_add-count-2 : goal.overflow_add-count-2
overflow_add-count-2 c = omega (arith, small (goal.at.overflow_add-count-2 c).After-len-last_part)

pub overflow_add-count-3 : goal.overflow_add-count-3
overflow_add-count-3 c = omega (arith, small (goal.at.overflow_add-count-3 c).After-len-last_part)

pub returns-clause-count : goal.returns-clause-count
returns-clause-count c = whole (goal.at.returns-clause-count c).After-len-last_part

pub returns-clause-relaxed : goal.returns-clause-relaxed
returns-clause-relaxed c = relaxed_is (goal.at.returns-clause-relaxed c).After-len-last_part

pub returns-clause-comparator : goal.returns-clause-comparator
returns-clause-comparator c = compared_is (goal.at.returns-clause-comparator c).After-len-last_part
