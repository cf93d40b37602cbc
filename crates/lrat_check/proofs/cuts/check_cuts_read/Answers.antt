use Rattle.std.proofs.lemmas.Result.{IfOk-weaker}
use Rattle.lrat_check.proofs.CutsLaws.{bound_shows, none_shows}
use Rattle.lrat_check.proofs.cuts.check_cuts_read.Goals as goal

pub returns-in-Bound-clause-sound : goal.returns-in-Bound-clause-sound
returns-in-Bound-clause-sound g c =
    IfOk-weaker c.check_stream.result _ _
    (λ v h y. bound_shows c.read_claim.result c.args.instance.now c.in-Bound.cost _ c.in-Bound.is
    c.read_claim.ensures.sound (h y)) c.check_stream.ensures.sound

pub returns-in-NoSolution-clause-sound : goal.returns-in-NoSolution-clause-sound
returns-in-NoSolution-clause-sound g c =
    IfOk-weaker c.check_stream-in-NoSolution.result _ _
    (λ v h y. none_shows c.read_claim.result c.args.instance.now _ c.in-NoSolution.is
    c.read_claim.ensures.sound (h y)) c.check_stream-in-NoSolution.ensures.sound
