-- The parts of the list.
use Rattle.std.proofs.Common.{◌+◌, ◌-◌, take, drop, ◌∙◌, ap}
use Rattle.std.proofs.lemmas.Result.{IfOk-weaker}
use Rattle.lrat_log.specs.Log.{clauses_in}
use Rattle.improve.specs.Weaker.{weaker_among}
use Rattle.improve.proofs.GivenParts.{parts_weaker}
use Rattle.improve.proofs.bounds.collect_weaker.Goals as goal

pub returns-clause-weaker : goal.returns-clause-weaker
returns-clause-weaker c =
    let cs = clauses_in c.args.given.now in
    let fixed = c.args.fixed in
    IfOk-weaker c.pair_with_subsets.result _ _ (λ w h x y z e f g. h
    ∙ ap (λ n. weaker_among (fixed + 1) (drop (n - c.args.last) cs)
    (take (n - c.args.last - fixed) (drop fixed cs))) c.len.ensures.len
    ∙ parts_weaker c.args.given.now fixed c.args.last x y z e f g)
    c.pair_with_subsets.ensures
