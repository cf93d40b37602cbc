-- The last clause of the formula is the empty one.
use Rattle.std.proofs.Common.{length, ◌∙◌, ap}
use Rattle.improve.proofs.AtZero.{zero_accepted}
use Rattle.improve.proofs.zero.refute_zero.Goals as goal

pub returns-clause-accepted : goal.returns-clause-accepted
returns-clause-accepted c =
    let clauses = c.clauses.ensures ∙ ap (λ f. f.clauses) c.in_ok-formula.ensures.clauses in
    zero_accepted c.args.profile c.args.instance.now c.len-clauses.result c.in_ok-log.log
    (c.len-clauses.ensures ∙ ap length clauses) c.in_ok-log.ensures
