-- The verdict is that on all bytes of the reader.
use Rattle.std.proofs.Common.{[], None, ◌∙◌, ap}
use Rattle.lrat_check.specs.Lower.{shown_by_cuts}
use Rattle.lrat_check.proofs.LowerLaws.{lower_over_cuts}
use Rattle.lrat_check.proofs.lower.judge_bound.Goals as goal

pub returns : goal.returns
returns g c = λ p s.
    let m = c.in_ok-judge.ensures.judges in
    let j = m.judged None p [] s in
    lower_over_cuts c.judge.new.checker p m.bytes (g.R.Read.remaining c.args.proof.now)
    (g.R.Read.remaining c.judge.new.proof) _ j m.read c.in_ok-judge.ensures.whole
    (c.shown.ensures ∙ ap shown_by_cuts (c.in_ok-finish_ended.ensures.verdict p m.bytes j))
