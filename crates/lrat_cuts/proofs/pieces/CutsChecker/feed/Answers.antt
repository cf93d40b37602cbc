-- After a fault the piece is dropped.
use Rattle.std.proofs.Common.{◌∙◌, sym, subst, arith, length-append}
use Rattle.lrat_cuts.specs.Pieces.{CheckerState, HasJudged}
use Rattle.lrat_cuts.proofs.PieceLaws.{holds_more, some_from_true}
use Rattle.lrat_cuts.proofs.pieces.CutsChecker.feed.Goals as goal

pub returns-then-is_some-clause-judged : goal.returns-then-is_some-clause-judged
returns-then-is_some-clause-judged c = λ cost p bytes s.
    let inside = subst (λ (x : CheckerState). HasJudged x cost p bytes) (sym c.self.view_is) s in
    record {
      fed = omega (arith, inside.fed, length-append bytes c.args.piece.now);
      holds =
          holds_more _ cost p bytes c.args.piece.now
          (some_from_true _ (sym c.is_some.ensures ∙ c.if-is_some.true)) inside.holds;
    }
