-- The line that was ended is the rest and these bytes.
use Rattle.std.proofs.Common.{◌∙◌, ap, refl}
use Rattle.lrat_cuts.specs.Pieces.{CheckerState, ReadingState}
use Rattle.lrat_cuts.proofs.PieceLaws.{holds_seen, line_more}
use Rattle.lrat_cuts.proofs.pieces.CutsChecker.end_line.Goals as goal

pub returns-clause-holds : goal.returns-clause-holds
returns-clause-holds c = λ cost p bytes h.
    let s = c.self.inside in
    let old : ReadingState = record { machine = s.machine; rest = s.rest; refused = s.refused } in
    line_more old _ c.args.end.now _
    (ap (λ (x : CheckerState). (x.reading).refused) c.self.view_is ∙ c.requires.open)
    c.requires.no_feed refl c.clear.ensures c.in_ok-self-inside.ensures.judges
    cost p bytes (holds_seen _ _ c.self.view_is cost p bytes h)
