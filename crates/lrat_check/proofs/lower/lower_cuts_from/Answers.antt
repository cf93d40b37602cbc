-- Of an instance.
use Rattle.std.proofs.lemmas.Result.{IfOk-weaker}
use Rattle.lrat_check.proofs.LowerLaws.{read_by_cuts, true_by_cuts}
use Rattle.lrat_check.proofs.lower.lower_cuts_from.Goals as goal

pub returns-in-Ok-clause-verdict : goal.returns-in-Ok-clause-verdict
returns-in-Ok-clause-verdict g c =
    IfOk-weaker c.judge_own-lower.result _ _
    (λ v h. read_by_cuts c.args.text.now c.in-Ok.instance c.limits.ensures
    c.in-Ok.ensures.instance (g.R.Read.remaining c.args.proof.now) _ v h) c.judge_own-lower.ensures

pub returns-in-Ok-clause-sound : goal.returns-in-Ok-clause-sound
returns-in-Ok-clause-sound g c =
    IfOk-weaker c.judge_own-lower.result _ _
    (λ v h. true_by_cuts c.args.text.now c.in-Ok.instance c.limits.ensures
    c.in-Ok.ensures.instance (g.R.Read.remaining c.args.proof.now) _ v h) c.judge_own-lower.ensures
