-- What they say, judged for the instance, is judged for the texts.
use Rattle.std.proofs.Common.{◌∙◌}
use Rattle.std.proofs.lemmas.Result.{IfOk-weaker}
use Rattle.lrat_result.specs.Report.{reported}
use Rattle.lrat_check.specs.Cuts.{said_cuts_verdict}
use Rattle.lrat_check.proofs.CutsLaws.{said_by_cuts}
use Rattle.lrat_check.proofs.LeftLaws.{if_some_all, if_some_more}
use Rattle.lrat_check.proofs.TrueResults.{true_by}
use Rattle.lrat_check.proofs.cuts.check_cuts_texts.Goals as goal

pub returns-in-Refused-clause-verdict : goal.returns-in-Refused-clause-verdict
returns-in-Refused-clause-verdict g c text answer read =
    let k = rw c.in-Refused.is at read in
    if_some_all (g.R.Read.remaining c.args.proof.now) _
    (λ bytes. k.1 (λ p r. said_cuts_verdict p r bytes))

pub returns-in-Read-clause-verdict : goal.returns-in-Read-clause-verdict
returns-in-Read-clause-verdict g c text answer read =
    let k = rw c.in-Read.is at read in
    IfOk-weaker c.check_cuts_read.result _ _
    (λ v h. if_some_more (g.R.Read.remaining c.args.proof.now) _ _
    (λ bytes e. e ∙ said_by_cuts text answer bytes c.in-Read.instance k.0
    (reported c.in-Read.report) k.1) h)
    c.check_cuts_read.ensures.verdict

pub returns-in-Read-clause-sound : goal.returns-in-Read-clause-sound
returns-in-Read-clause-sound g c text answer read =
    let k = rw c.in-Read.is at read in
    IfOk-weaker c.check_cuts_read.result _ _
    (λ v h y. true_by text answer c.in-Read.instance (reported c.in-Read.report) k.0 k.1
    (h y))
    c.check_cuts_read.ensures.sound
