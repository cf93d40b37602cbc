use Rattle.std.proofs.Common.{sym, subst}
use Rattle.lrat_live.specs.Counts.{AreCounts}
use Rattle.lrat_live.specs.Near.{all_of}
use Rattle.lrat_live.specs.Pages.{count_in}
use Rattle.lrat_live.proofs.Listed.{rises_from}
use Rattle.lrat_live.proofs.Clauses.{without_none}
use Rattle.lrat_live.proofs.CountLaws.{counts_without}
use Rattle.lrat_live.proofs.live.count_out.Goals as goal

pub returns-in_default : goal.returns-in_default
returns-in_default c = λ old yes.
    let es = all_of c.args.near.now c.args.far.now in
    subst (AreCounts (count_in c.args.counts.now))
    (sym (without_none c.args.id es (sym c.in_default.ensures)))
    (old yes)

pub returns : goal.returns
returns c = λ old yes.
    let es = all_of c.args.near.now c.args.far.now in
    counts_without (count_in c.args.counts.now) (count_in c.lower.new.counts) es c.args.id
    c.in-Some.clause.now
    (rises_from es c.requires.rising) (sym c.in-Some.ensures) (old yes) c.lower.ensures
