-- A certificate that is accepted shows it.
use Rattle.std.proofs.Common.{◌∙◌, Some, sym}
use Rattle.std.proofs.lemmas.Result.{IfOk-weaker}
use Rattle.lrat_cuts.proofs.Laws.{accepted_least}
use Rattle.lrat_check.proofs.cuts.check_stream.Goals as goal

pub returns-clause-sound : goal.returns-clause-sound
returns-clause-sound g c =
    IfOk-weaker c.judge_stream.result _ _
    (λ v h y. let j = h (Some c.args.cost) c.args.instance.now c.in_ok-new.ensures.judged in
    accepted_least c.args.instance.now c.limits.ensures c.args.cost j.bytes c.requires
    (sym j.verdict ∙ y))
    c.judge_stream.ensures
