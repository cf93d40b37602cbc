use Rattle.std.proofs.Common.{◌≡◌, ap, arith, drop, sym, ◌∙◌}
use Rattle.lrat_live.proofs.Clauses.{paste_stay}
use lib.Seq.{paste}
use Rattle.lrat_live.proofs.reclaim.move_down.Goals as goal

pub returns-else-to-start-clause-moved : goal.returns-else-to-start-clause-moved
returns-else-to-start-clause-moved c =
    let ls = c.args.lits.now.items in
    let same : c.args.to ≡ c.args.start = omega arith in
    sym (paste_stay ls c.args.to c.args.count)
    ∙ ap (λ n. paste ls c.args.to (drop n ls) c.args.count) same
