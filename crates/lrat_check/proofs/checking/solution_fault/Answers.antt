use Rattle.lrat_check.proofs.BitsFaults.{found_infeasible, found_cost, found_right}
use Rattle.lrat_check.proofs.checking.solution_fault.Goals as goal

pub returns-then-not-feasible-clause-fault : goal.returns-then-not-feasible-clause-fault
returns-then-not-feasible-clause-fault c r same_bits same_cost =
    rw (← c.as_slice-bits.ensures.value)
    (found_infeasible c.args.instance.now r c.args.solution.now.cost.cost _ _ c.if-bits-vars.false
    c.vars.ensures.vars _ c.feasible.ensures c.if-not-feasible.true _ same_bits)

pub returns-then-cost-solution-clause-fault : goal.returns-then-cost-solution-clause-fault
returns-then-cost-solution-clause-fault c r same_bits same_cost =
    rw (← c.as_slice-bits.ensures.value)
    (found_cost c.args.instance.now r c.args.solution.now.cost.cost _ _ c.if-bits-vars.false
    c.vars.ensures.vars _ c.feasible.ensures _ c.cost.ensures c.if-not-feasible.false
    c.if-cost-solution.true _ same_cost)

pub returns-clause-fault : goal.returns-clause-fault
returns-clause-fault c r same_bits same_cost =
    rw (← c.as_slice-bits.ensures.value)
    (found_right c.args.instance.now r c.args.solution.now.cost.cost _ _ c.if-bits-vars.false
    c.vars.ensures.vars _ c.feasible.ensures _ c.cost.ensures c.if-not-feasible.false
    c.if-cost-solution.false)
