-- One clause more was put.
use Rattle.bound.specs.Bound.{dimacs_clause}
use Rattle.std.specs.List.{flat_map}
use Rattle.std.proofs.Common.{sym, ap, ◌∙◌}
use Rattle.lrat_plain.proofs.Texts.{none_put, all_put, put_more}
use Rattle.lrat_plain.proofs.spelling.put_clauses.Goals as goal

pub loop-clause-init : goal.loop-clause-init
loop-clause-init g c =
    none_put _ _ _ _ (ap (flat_map dimacs_clause) (sym
    (c.into_iter-clause-iterator.ensures.into_iter_gives
    ∙ c.iter-clause-items.ensures)))

pub loop-clause-preserved : goal.loop-clause-preserved
loop-clause-preserved g c =
    put_more _ _ _ _ _ _ _ _ _ _ (ap (flat_map dimacs_clause) c.in-Some.ensures.steps)
    c.loop-clause.invariant
    c.in_ok-put_clause.ensures

pub returns : goal.returns
returns g c =
    all_put _ _ _ _ _ _ (ap (flat_map dimacs_clause) c.in-None.ensures.steps.0)
    c.loop-clause.invariant
