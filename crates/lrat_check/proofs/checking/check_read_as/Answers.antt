use Rattle.std.proofs.Common.{◌∙◌}
use Rattle.std.proofs.lemmas.Result.{IfOk-weaker}
use Rattle.lrat_result.specs.Report.{reported}
use Rattle.lrat_check.specs.Verdict.{proof_verdict, said_verdict}
use Rattle.lrat_check.proofs.LeftLaws.{nothing_gives, proof_gives, proof_shows, if_some_all}
use Rattle.lrat_check.proofs.LeftLaws.{if_some_more}
use Rattle.lrat_check.proofs.Stops.{stops_at_once, stops_same}
use Rattle.lrat_check.proofs.checking.check_read_as.Goals as goal

pub returns-in-Nothing-clause-verdict : goal.returns-in-Nothing-clause-verdict
returns-in-Nothing-clause-verdict g c =
    if_some_all (g.R.Read.remaining c.args.proof.now) _
    (nothing_gives c.in_ok-left.left c.in-Nothing.verdict
    (said_verdict c.args.profile c.args.instance.now (reported c.args.report.now))
    c.in-Nothing.is c.in_ok-left.ensures.verdict)

pub returns-in-Nothing-clause-stops : goal.returns-in-Nothing-clause-stops
returns-in-Nothing-clause-stops g c =
    stops_at_once (said_verdict c.args.profile c.args.instance.now (reported c.args.report.now))
    (g.R.Read.remaining c.args.proof.now)

pub returns-in-Proof-clause-verdict : goal.returns-in-Proof-clause-verdict
returns-in-Proof-clause-verdict g c =
    IfOk-weaker c.check_stream.result _ _
    (λ v h. if_some_more (g.R.Read.remaining c.args.proof.now) _ _ (λ bytes e. e
    ∙ proof_gives c.in_ok-left.left c.in-Proof.formula
    (said_verdict c.args.profile c.args.instance.now (reported c.args.report.now))
    c.in-Proof.is c.in_ok-left.ensures.verdict bytes) h)
    c.check_stream.ensures.verdict

pub returns-in-Proof-clause-stops : goal.returns-in-Proof-clause-stops
returns-in-Proof-clause-stops g c =
    IfOk-weaker c.check_stream.result _ _
    (λ v h. stops_same (proof_verdict c.in-Proof.formula.clauses)
    (said_verdict c.args.profile c.args.instance.now (reported c.args.report.now))
    (g.R.Read.remaining c.args.proof.now) _
    (proof_gives c.in_ok-left.left c.in-Proof.formula
    (said_verdict c.args.profile c.args.instance.now (reported c.args.report.now))
    c.in-Proof.is c.in_ok-left.ensures.verdict) h)
    c.check_stream.ensures.stops

pub returns-in-Proof-clause-sound : goal.returns-in-Proof-clause-sound
returns-in-Proof-clause-sound g c =
    IfOk-weaker c.check_stream.result _ _
    (λ v h y. proof_shows c.in_ok-left.left c.in-Proof.formula _ c.in-Proof.is
    c.in_ok-left.ensures.sound (h y)) c.check_stream.ensures.sound
