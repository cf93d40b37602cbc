use Rattle.lrat_live.proofs.CountLaws.{counts_push}
use Rattle.lrat_live.specs.Pages.{count_in}
use Rattle.lrat_live.proofs.counts.count_last.Goals as goal

pub returns-in-Ok : goal.returns-in-Ok
returns-in-Ok c =
    λ es id old yes. counts_push (count_in c.args.counts.now) (count_in c.raise.new.counts) es id
    c.args.clause.now (old c.if-not-is_counted.false) c.in-Ok.ensures
