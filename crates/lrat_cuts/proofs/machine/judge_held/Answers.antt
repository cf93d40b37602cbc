-- Literals that are too large are not there.
use Rattle.std.proofs.Common.{sym, ◌∙◌}
use Rattle.lrat_cuts.proofs.Judging.{large_refused}
use Rattle.lrat_cuts.proofs.machine.judge_held.Goals as goal

pub returns-in-Count-clause-judged : goal.returns-in-Count-clause-judged
returns-in-Count-clause-judged c =
    λ line h. large_refused c.args.cost c.args.base.now c.args.words.now
    (sym c.is_large.ensures ∙ c.if-is_large.true) c.limits.ensures c.args.form line
    c.in-Count.is h
