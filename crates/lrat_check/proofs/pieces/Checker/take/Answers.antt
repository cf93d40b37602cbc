-- What the piece leaves: after a line of it, after its last bytes, and after a fault.
use Rattle.std.proofs.Common.{◌≡◌, ◌++◌, ◌∷◌, ◌∙◌, [], length, ap, refl, arith}
use Rattle.text.proofs.Laws.{line_lengths}
use Rattle.lrat_check.specs.Pieces.{CheckerState}
use Rattle.lrat_check.proofs.PieceLaws.{taken_on, rest_kept, rest_dropped}
use Rattle.lrat_check.proofs.PieceLaws.{taken_batch, taken_none, batch_lengths, some_from_test}
use Rattle.lrat_check.proofs.pieces.Checker.take.Goals as goal

pub loop-left-preserved-then-count-gt0 : goal.loop-left-preserved-then-count-gt0
loop-left-preserved-then-count-gt0 c = record {
  taken =
      taken_batch (c.args.self.now).reading (c.loop-left.self).reading
      (c.take_batch.new.self).reading c.args.piece.now c.loop-left.left.now
      c.in_ok-count.count _ c.loop-left.invariant.taken refl
      c.in_ok-count.ensures.holds;
  room =
      (let n = batch_lengths c.loop-left.left.now c.in_ok-count.count _
      c.in_ok-count.ensures.within refl in
      let same = ap length c.take_batch.ensures.rest in
      omega (
        arith,
        c.in_ok-count.ensures.lines,
        c.loop-left.invariant.room,
        c.take_batch.ensures.fed,
        n,
        same,
      ));
  fed = c.take_batch.ensures.fed ∙ c.loop-left.invariant.fed;
  works = c.take_batch.ensures.works;
}

pub loop-left-preserved : goal.loop-left-preserved
loop-left-preserved c =
    let none : c.in_ok-count.count ≡ 0 = omega (arith, c.if-count-gt0.false) in
    record {
      taken =
          taken_on (c.args.self.now).reading (c.take_batch.new.self).reading
          (c.end_line.new.self).reading c.args.piece.now
          c.loop-left.left.now (c.in-Some.end.now ++ 10 ∷ []) c.in-Some.after.now
          (taken_none (c.args.self.now).reading (c.loop-left.self).reading
          (c.take_batch.new.self).reading c.args.piece.now c.loop-left.left.now
          c.in_ok-count.count c.loop-left.invariant.taken none c.in_ok-count.ensures.holds)
          c.in-Some.ensures.split
          c.in_ok-end_line-in-Some.ensures.holds;
      room =
          (let n = line_lengths c.loop-left.left.now c.in-Some.end.now c.in-Some.after.now
          c.in-Some.ensures in
          let empty = ap length c.end_line.ensures.rest in
          omega (
            arith,
            c.in_ok-end_line-in-Some.ensures.lines,
            c.in_ok-count.ensures.lines,
            c.loop-left.invariant.room,
            c.take_batch.ensures.fed,
            c.end_line.ensures.fed,
            n,
            none,
            empty,
          ));
      fed = c.end_line.ensures.fed ∙ c.take_batch.ensures.fed ∙ c.loop-left.invariant.fed;
      works = c.end_line.ensures.works;
    }

pub returns-in-None-clause-holds : goal.returns-in-None-clause-holds
returns-in-None-clause-holds c =
    let none : c.in_ok-count.count ≡ 0 = omega (arith, c.if-count-gt0.false) in
    let is = c.self-in-None.view_is in
    rest_kept (c.args.self.now).reading (c.take_batch.new.self).reading _
    c.args.piece.now c.loop-left.left.now
    (taken_none (c.args.self.now).reading (c.loop-left.self).reading
    (c.take_batch.new.self).reading c.args.piece.now c.loop-left.left.now
    c.in_ok-count.count c.loop-left.invariant.taken none c.in_ok-count.ensures.holds)
    (c.in_ok-count.ensures.open none) c.in-None.ensures
    (ap (λ (x : CheckerState). (x.reading).machine) is)
    (ap (λ (x : CheckerState). (x.reading).refused) is)
    (c.in_ok-keep-in-None.ensures.kept
    ∙ ap (λ (x : CheckerState). (x.reading).rest ++ c.loop-left.left.now) is)

pub returns-clause-holds : goal.returns-clause-holds
returns-clause-holds c =
    rest_dropped (c.args.self.now).reading (c.loop-left.self).reading
    c.args.piece.now c.loop-left.left.now c.loop-left.invariant.taken
    (λ none. some_from_test c.self.inside.refused c.is_none.result c.is_none.ensures
    c.loop-left-test.false
    (ap (λ (x : CheckerState). (x.reading).refused) c.self.view_is ∙ none))
