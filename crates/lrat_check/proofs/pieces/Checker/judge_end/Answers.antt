-- The first fault is the verdict.
use Rattle.std.proofs.Common.{subst, sym}
use Rattle.lrat_check.specs.Pieces.{CheckerState, HasJudged}
use Rattle.lrat_check.proofs.PieceLaws.{ends_refused}
use Rattle.lrat_check.proofs.pieces.Checker.judge_end.Goals as goal

pub returns-in-Some-clause-verdict : goal.returns-in-Some-clause-verdict
returns-in-Some-clause-verdict c = λ formula bytes s.
    let inside = subst (λ (x : CheckerState). HasJudged x formula bytes) (sym c.self.view_is) s in
    ends_refused _ c.in-Some.refused c.in-Some.is formula bytes inside.holds
