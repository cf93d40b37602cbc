-- One clause more was put.
use Rattle.std.proofs.Common.{sym, ap, ◌∙◌}
use Rattle.std.proofs.lemmas.Result.{err_from_is_err_and}
use Rattle.bound.proofs.Streams.{lines_of, none_put, same_left, all_put, put_more, put_fault}
use Rattle.bound.proofs.dimacs.put_clauses.Goals as goal

pub returns-in_err-put_clause : goal.returns-in_err-put_clause
returns-in_err-put_clause g c =
    let p = err_from_is_err_and c.from_residual.result c.from_residual.ensures.1 in
    let at =
    same_left _ _ _ _ _ _ _ (ap lines_of c.in-Some.ensures.steps) c.loop-clause.invariant in
    rw (p.1) (put_fault _ _ _ _ _ _ _ _ at c.in_err-put_clause.ensures)

pub loop-clause-init : goal.loop-clause-init
loop-clause-init g c =
    same_left _ _ _ _ _ _ _
    (ap lines_of (sym (c.into_iter-clause-iterator.ensures.into_iter_gives
    ∙ c.iter-clause-items.ensures))) (none_put _ _ _)

pub loop-clause-preserved : goal.loop-clause-preserved
loop-clause-preserved g c =
    let at =
    same_left _ _ _ _ _ _ _ (ap lines_of c.in-Some.ensures.steps) c.loop-clause.invariant in
    put_more _ _ _ _ _ _ _ _ at _ c.in_ok-put_clause.ensures

pub returns : goal.returns
returns g c =
    all_put _ _ _ _ _ (same_left _ _ _ _ _ _ _ (ap lines_of c.in-None.ensures.steps.0)
    c.loop-clause.invariant)
