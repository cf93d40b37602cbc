use Rattle.std.proofs.lemmas.Result.{IfOk-weaker}
use Rattle.lrat_machine.proofs.Laws.{yes_is_sound}
use Rattle.lrat_check.specs.Verdict.{proof_verdict}
use Rattle.lrat_check.proofs.Stops.{stops_in_time}
use Rattle.lrat_check.proofs.streams.check_stream.Goals as goal

pub returns-clause-verdict : goal.returns-clause-verdict
returns-clause-verdict g c =
    IfOk-weaker c.judge_stream.result _ _
    (λ v h. (h c.args.formula.clauses c.in_ok-over.ensures.judged).all) c.judge_stream.ensures

pub returns-clause-sound : goal.returns-clause-sound
returns-clause-sound g c =
    IfOk-weaker c.judge_stream.result _ _
    (λ v h. let j = h c.args.formula.clauses c.in_ok-over.ensures.judged in
    yes_is_sound c.args.formula j.bytes v c.limits.ensures j.verdict)
    c.judge_stream.ensures

pub returns-clause-stops : goal.returns-clause-stops
returns-clause-stops g c =
    IfOk-weaker c.judge_stream.result _ _
    (λ v h. let j = h c.args.formula.clauses c.in_ok-over.ensures.judged in
    stops_in_time (proof_verdict c.args.formula.clauses) (g.R.Read.remaining c.args.proof.now) _
    j.bytes j.read j.in_time) c.judge_stream.ensures
