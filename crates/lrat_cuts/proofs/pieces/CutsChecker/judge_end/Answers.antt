-- The first fault is the verdict.
use Rattle.std.proofs.Common.{subst, sym}
use Rattle.lrat_cuts.specs.Pieces.{CheckerState, HasJudged}
use Rattle.lrat_cuts.proofs.PieceLaws.{ends_refused}
use Rattle.lrat_cuts.proofs.pieces.CutsChecker.judge_end.Goals as goal

pub returns-in-Some-clause-verdict : goal.returns-in-Some-clause-verdict
returns-in-Some-clause-verdict c = λ cost p bytes s.
    let inside = subst (λ (x : CheckerState). HasJudged x cost p bytes) (sym c.self.view_is) s in
    ends_refused _ cost p bytes inside.holds (c.in-Some.cause, c.in-Some.line) c.in-Some.is
