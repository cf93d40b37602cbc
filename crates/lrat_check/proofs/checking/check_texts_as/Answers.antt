-- What they say, judged for the instance, is judged for the texts.
use Rattle.std.proofs.Common.{ℕ, refl}
use Rattle.std.specs.Prelude.{Ok}
use Rattle.std.proofs.lemmas.Result.{IfOk-weaker}
use Rattle.wcnf.proofs.Laws.{reading_is_right}
use Rattle.lrat_result.specs.Report.{reported}
use Rattle.lrat_check.specs.Verdict.{said_verdict, verdict_as}
use Rattle.lrat_check.proofs.Checked.{yes_by}
use Rattle.lrat_check.proofs.Judging.{reported_verdict}
use Rattle.lrat_check.proofs.LeftLaws.{if_some_all, if_some_more}
use Rattle.lrat_check.proofs.Stops.{stops_at_once, stops_same}
use Rattle.lrat_check.proofs.TrueResults.{true_by}
use Rattle.lrat_check.proofs.checking.check_texts_as.Goals as goal

pub returns-in-Refused-clause-verdict : goal.returns-in-Refused-clause-verdict
returns-in-Refused-clause-verdict g c text answer read =
    let k = rw c.in-Refused.is at read in
    if_some_all (g.R.Read.remaining c.args.proof.now) _
    (λ bytes. k.1 (λ p r. said_verdict c.args.profile p r bytes))

pub returns-in-Refused-clause-yes : goal.returns-in-Refused-clause-yes
returns-in-Refused-clause-yes g c text answer read =
    let k = rw c.in-Refused.is at read in
    if_some_all (g.R.Read.remaining c.args.proof.now) _
    (λ bytes. yes_by reading_is_right c.args.profile text answer bytes _
    (k.1 (λ p r. said_verdict c.args.profile p r bytes)))

pub returns-in-Refused-clause-stops : goal.returns-in-Refused-clause-stops
returns-in-Refused-clause-stops g c text answer read =
    stops_at_once (verdict_as c.args.profile text answer) (g.R.Read.remaining c.args.proof.now)

pub returns-in-Read-clause-verdict : goal.returns-in-Read-clause-verdict
returns-in-Read-clause-verdict g c text answer read =
    let k = rw c.in-Read.is at read in
    IfOk-weaker c.check_read_as.result _ _
    (λ v h. if_some_more (g.R.Read.remaining c.args.proof.now) _ _
    (λ bytes e. reported_verdict c.args.profile text answer bytes c.in-Read.instance k.0
    c.in-Read.report k.1 {E = ℕ} (Ok v) e) h)
    c.check_read_as.ensures.verdict

pub returns-in-Read-clause-yes : goal.returns-in-Read-clause-yes
returns-in-Read-clause-yes g c text answer read =
    let k = rw c.in-Read.is at read in
    IfOk-weaker c.check_read_as.result _ _
    (λ v h. if_some_more (g.R.Read.remaining c.args.proof.now) _ _
    (λ bytes e. yes_by reading_is_right c.args.profile text answer bytes v
    (reported_verdict c.args.profile text answer bytes c.in-Read.instance k.0
    c.in-Read.report k.1 {E = ℕ} (Ok v) e)) h)
    c.check_read_as.ensures.verdict

pub returns-in-Read-clause-stops : goal.returns-in-Read-clause-stops
returns-in-Read-clause-stops g c text answer read =
    let k = rw c.in-Read.is at read in
    IfOk-weaker c.check_read_as.result _ _
    (λ v h. stops_same
    (said_verdict c.args.profile c.in-Read.instance (reported c.in-Read.report))
    (verdict_as c.args.profile text answer) (g.R.Read.remaining c.args.proof.now) _
    (λ bytes. reported_verdict c.args.profile text answer bytes c.in-Read.instance k.0
    c.in-Read.report k.1 {E = ℕ} (Ok _) refl) h)
    c.check_read_as.ensures.stops

pub returns-in-Read-clause-sound : goal.returns-in-Read-clause-sound
returns-in-Read-clause-sound g c text answer read =
    let k = rw c.in-Read.is at read in
    IfOk-weaker c.check_read_as.result _ _
    (λ v h y. true_by text answer c.in-Read.instance (reported c.in-Read.report) k.0 k.1
    (h y))
    c.check_read_as.ensures.sound
