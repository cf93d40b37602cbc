-- What the lines up to the last line feed prove.
use Rattle.std.proofs.Common.{subst, sym, ap, ◌∙◌, None}
use Rattle.lrat_cuts.specs.Pieces.{CheckerState, HasJudged}
use Rattle.lrat_cuts.specs.Verdict.{lower_of}
use Rattle.lrat_cuts.specs.declared.verdicts.LowerVerdict.TheVariants.{AtLeast}
use Rattle.lrat_cuts.proofs.EndedParts.{ended_open, ended_refused}
use Rattle.lrat_cuts.proofs.pieces.CutsChecker.finish_ended.Goals as goal

pub returns-in-Some-clause-verdict : goal.returns-in-Some-clause-verdict
returns-in-Some-clause-verdict c = λ p bytes s.
    let inside = subst (λ (x : CheckerState). HasJudged x None p bytes) (sym c.self.view_is) s in
    ap lower_of (sym (ended_refused _ p bytes None inside.holds (c.in-Some.cause, c.in-Some.line)
    c.in-Some.is))

pub returns-in-None-clause-verdict : goal.returns-in-None-clause-verdict
returns-in-None-clause-verdict c = λ p bytes s.
    let inside = subst (λ (x : CheckerState). HasJudged x None p bytes) (sym c.self.view_is) s in
    ap AtLeast c.proved.ensures.proved
    ∙ ap lower_of (sym (ended_open _ p bytes None inside.holds c.in-None.is))
