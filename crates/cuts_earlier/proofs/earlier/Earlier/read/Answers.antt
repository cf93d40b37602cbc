-- The lines are right up to the last line feed, or one of them is not.
use Rattle.std.proofs.Common.{◌≡◌, ℕ, List, [], None, Ok, Option, ◌∙◌, subst, sym}
use Rattle.std.specs.Prelude.{IfSome}
use Rattle.cnf.specs.Problem.{Problem}
use Rattle.lrat_cuts.specs.Machine.{MachineState}
use Rattle.lrat_cuts.specs.Pieces.{HasJudged}
use Rattle.lrat_cuts.specs.Verdict.{ended_part, judged_text}
use Rattle.cuts_earlier.proofs.Judgings.{right_for, wrong_for}
use Rattle.cuts_earlier.proofs.earlier.Earlier.read.Goals as goal

pub returns-in-Some : goal.returns-in-Some
returns-in-Some g c =
    let p = c.args.instance.now in
    let m = c.in-Ok.ensures.judges in
    let j = m.judged None p [] c.in_ok-checker.ensures.judged in
    wrong_for c.judge.new.checker p m.bytes (g.R.Read.remaining c.args.proof.now)
    (g.R.Read.remaining c.judge.new.proof) j m.read (c.in-Some.cause, c.in-Some.line)
    (sym c.refused.ensures.refused ∙ c.in-Some.is)

pub returns : goal.returns
returns g c =
    let p = c.args.instance.now in
    let m = c.in-Ok.ensures.judges in
    let j = m.judged None p [] c.in_ok-checker.ensures.judged in
    let known = subst (λ (x : Option MachineState). IfSome x (λ n. (q : Problem)
    (bytes : List ℕ) → HasJudged c.judge.new.checker None q bytes
    → judged_text None q (ended_part bytes) ≡ Ok n.state)) c.in-Some-2.is
    c.in_ok-machine.ensures.state in
    right_for c.judge.new.checker p m.bytes (g.R.Read.remaining c.args.proof.now)
    (g.R.Read.remaining c.judge.new.proof) j m.read c.in-Some-2.machine.state
    (known p m.bytes j)
    (c.in-Ok.ensures.whole (sym c.refused.ensures.refused ∙ c.in_default.is))
