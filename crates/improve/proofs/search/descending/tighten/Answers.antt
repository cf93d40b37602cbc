-- The end of the bounds is that of the search.
use Rattle.std.proofs.Common.{◌≡◌, ◌+◌, ap, arith, sym, subst}
use Rattle.lrat_log.specs.Steps.{learned_count}
use Rattle.cdcl_order.specs.Budgets.{left_of}
use Rattle.improve_found.specs.Progress.{AreFalling}
use Rattle.improve.specs.Improving.{IsHardLog, work_count}
use Rattle.improve.specs.Standing.{starting_with}
use Rattle.improve.proofs.SearchEnds.{on_work_weaker}
use Rattle.improve.proofs.Standings.{ends_descended, ends_failing}
use Rattle.improve.proofs.search.descending.tighten.Goals as goal

pub conclude_optimum-requires-clause-solution : goal.conclude_optimum-requires-clause-solution
conclude_optimum-requires-clause-solution g c =
    c.in-Ok-Refuted.ensures.descends.goes_on.standing.solution

pub conclude_optimum-requires-clause-last : goal.conclude_optimum-requires-clause-last
conclude_optimum-requires-clause-last g c =
    let d = c.in-Ok-Refuted.ensures.descends in (d.earlier, d.last)

pub conclude_optimum-requires-clause-falling : goal.conclude_optimum-requires-clause-falling
conclude_optimum-requires-clause-falling g c =
    let d = c.in-Ok-Refuted.ensures.descends in
    subst AreFalling (sym d.last) d.goes_on.standing.falling

pub returns-in-Ok-Refuted-clause-ends : goal.returns-in-Ok-Refuted-clause-ends
returns-in-Ok-Refuted-clause-ends g c =
    let r = c.conclude_optimum in
    let learned = learned_count c.descend.new.descent.bounds.solver.sink in
    ends_descended c.args.descent.bounds.profile c.descend.new.descent.bounds.profile
    c.args.instance.now r.result _ _ _ _ _ _ _ (learned_count c.args.descent.hard)
    c.in-Ok-Refuted.ensures.descends
    r.ensures.fault c.in-Ok-Refuted.ensures.profile r.ensures.found
    (on_work_weaker r.result (λ w. ⊥)
    (λ w. work_count w ≡ learned_count c.args.descent.hard + learned) (λ w x. absurd x)
    r.ensures.work)
    (on_work_weaker r.result (λ w. ⊥) (λ w. left_of c.descend.new.budget ≡ 0) (λ w x. absurd x)
    r.ensures.work)

pub conclude_spent-requires-clause-solution : goal.conclude_spent-requires-clause-solution
conclude_spent-requires-clause-solution g c =
    c.in-Ok-Spent.ensures.descends.goes_on.standing.solution

pub conclude_spent-requires-clause-last : goal.conclude_spent-requires-clause-last
conclude_spent-requires-clause-last g c =
    let d = c.in-Ok-Spent.ensures.descends in (d.earlier, d.last)

pub conclude_spent-requires-clause-falling : goal.conclude_spent-requires-clause-falling
conclude_spent-requires-clause-falling g c =
    let d = c.in-Ok-Spent.ensures.descends in
    subst AreFalling (sym d.last) d.goes_on.standing.falling

pub returns-in-Ok-Spent-clause-ends : goal.returns-in-Ok-Spent-clause-ends
returns-in-Ok-Spent-clause-ends g c =
    let r = c.conclude_spent in
    let learned = learned_count c.descend.new.descent.bounds.solver.sink in
    let end = rw c.in-Ok-Spent.field-0-is at c.in-Ok-Spent.ensures.end in
    let hard = ap learned_count c.descend.ensures.same_hard in
    let work =
    on_work_weaker r.result
    (λ w. work_count w ≡ learned_count c.descend.new.descent.hard + learned)
    (λ w. work_count w ≡ learned_count c.args.descent.hard + learned)
    (λ w x. omega (arith, x, hard)) r.ensures.work in
    ends_descended c.args.descent.bounds.profile c.descend.new.descent.bounds.profile
    c.args.instance.now r.result _ _ _ _ _ _ _ (learned_count c.args.descent.hard)
    c.in-Ok-Spent.ensures.descends
    r.ensures.fault c.in-Ok-Spent.ensures.profile r.ensures.found work
    (on_work_weaker r.result (λ w. work_count w ≡ learned_count c.args.descent.hard + learned)
    (λ w. left_of c.descend.new.budget ≡ 0) (λ w x. end.none_left) work)

pub returns-in-Err-clause-ends : goal.returns-in-Err-clause-ends
returns-in-Err-clause-ends g c =
    ends_failing c.args.descent.bounds.profile c.args.instance.now c.in-Err.fault
    (g.T.Progress.state c.args.progress.now) (g.T.Progress.state c.descend.new.progress)
    c.args.budget.now c.descend.new.budget
    (starting_with c.args.descent.best) (learned_count c.args.descent.hard)
    c.in-Err.ensures.fails

pub conclude_optimum-requires-clause-over : goal.conclude_optimum-requires-clause-over
conclude_optimum-requires-clause-over g c = c.in-Ok-Refuted.ensures.over

pub conclude_optimum-requires-clause-refuted : goal.conclude_optimum-requires-clause-refuted
conclude_optimum-requires-clause-refuted g c =
    rw c.in-Ok-Refuted.field-0-is at c.in-Ok-Refuted.ensures.end

pub conclude_spent-requires-clause-over : goal.conclude_spent-requires-clause-over
conclude_spent-requires-clause-over g c = c.in-Ok-Spent.ensures.over

pub conclude_spent-requires-clause-open : goal.conclude_spent-requires-clause-open
conclude_spent-requires-clause-open g c =
    let end = rw c.in-Ok-Spent.field-0-is at c.in-Ok-Spent.ensures.end in end.open_end

pub conclude_spent-requires-clause-above : goal.conclude_spent-requires-clause-above
conclude_spent-requires-clause-above g c =
    let end = rw c.in-Ok-Spent.field-0-is at c.in-Ok-Spent.ensures.end in end.above_zero

pub conclude_spent-requires-clause-hard : goal.conclude_spent-requires-clause-hard
conclude_spent-requires-clause-hard g c =
    subst (IsHardLog c.args.instance.now) (sym c.descend.ensures.same_hard) c.requires.hard
