-- What the piece leaves: after a line of it, after its last bytes, and after a fault.
use Rattle.std.proofs.Common.{◌++◌, ◌∷◌, ◌∙◌, [], length, ap, arith, sym}
use Rattle.text.proofs.Laws.{line_lengths}
use Rattle.lrat_cuts.specs.Pieces.{CheckerState}
use Rattle.lrat_cuts.proofs.PieceLaws.{taken_on, rest_kept, rest_dropped, none_from_test}
use Rattle.lrat_cuts.proofs.PieceLaws.{some_from_test}
use Rattle.lrat_cuts.proofs.pieces.CutsChecker.take.Goals as goal

pub loop-left-preserved : goal.loop-left-preserved
loop-left-preserved c = record {
  taken =
      taken_on (c.args.self.now).reading (c.loop-left.self).reading
      (c.end_line.new.self).reading c.args.piece.now
      c.loop-left.left.now (c.in-Some.end.now ++ 10 ∷ []) c.in-Some.after.now
      c.loop-left.invariant.taken c.in-Some.ensures.split
      c.in_ok-end_line-in-Some.ensures.holds;
  room =
      (let n = line_lengths c.loop-left.left.now c.in-Some.end.now c.in-Some.after.now
      c.in-Some.ensures in
      let empty = ap length c.end_line.ensures.rest in
      omega (
        arith,
        c.in_ok-end_line-in-Some.ensures.lines,
        c.loop-left.invariant.room,
        c.end_line.ensures.fed,
        n,
        empty,
      ));
  fed = c.end_line.ensures.fed ∙ c.loop-left.invariant.fed;
  works = c.end_line.ensures.works;
}

pub returns-in-None-clause-holds : goal.returns-in-None-clause-holds
returns-in-None-clause-holds c =
    let is = c.self.view_is in
    rest_kept (c.args.self.now).reading (c.loop-left.self).reading _ c.args.piece.now
    c.loop-left.left.now c.loop-left.invariant.taken
    (sym (ap (λ (x : CheckerState). (x.reading).refused) is)
    ∙ none_from_test c.self.inside.refused c.is_none.result c.is_none.ensures
    c.loop-left-test.true)
    c.in-None.ensures
    (ap (λ (x : CheckerState). (x.reading).machine) is)
    (ap (λ (x : CheckerState). (x.reading).refused) is)
    (c.in_ok-keep-in-None.ensures.kept
    ∙ ap (λ (x : CheckerState). (x.reading).rest ++ c.loop-left.left.now) is)

pub returns-clause-holds : goal.returns-clause-holds
returns-clause-holds c =
    rest_dropped (c.args.self.now).reading (c.loop-left.self).reading
    c.args.piece.now c.loop-left.left.now c.loop-left.invariant.taken
    (λ none. some_from_test c.self.inside.refused c.is_none.result c.is_none.ensures
    c.loop-left-test.false
    (ap (λ (x : CheckerState). (x.reading).refused) c.self.view_is ∙ none))
