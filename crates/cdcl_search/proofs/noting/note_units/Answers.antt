use Rattle.std.proofs.Common.{◌≡◌, ◌≤◌, length, sym, subst, arith}
use Rattle.std.proofs.lemmas.List.{length-map}
use Rattle.propagate.specs.Trail.{Assigned, literals_of}
use Rattle.cdcl_search.proofs.UnitLines.{flat_zero}
use Rattle.cdcl_search.proofs.NotedUnits.{noting_start, noting_more}
use Rattle.cdcl_search.proofs.Written.{refused}
use Rattle.cdcl_search.proofs.noting.note_units.Goals as goal

pub loop-search-init : goal.loop-search-init
loop-search-init g c = record {
  noting = noting_start c.args.search.now c.args.input.now (g.S.Sink.lines c.args.sink.now)
      c.requires.runs c.requires.flat;
  follows = λ first f. f;
}

pub loop-search-preserved : goal.loop-search-preserved
loop-search-preserved g c = record {
  noting =
      noting_more c.args.search.now c.loop-search.search c.note_unit.new.search c.args.input.now
      (g.S.Sink.lines c.args.sink.now) (g.S.Sink.lines c.loop-search.sink)
      (g.S.Sink.lines c.note_unit.new.sink) c.loop-search.invariant.noting
      (let t = c.loop-search-test.true in let a = c.assigned.ensures.len in
      omega arith) c.in_ok-note_unit.ensures.notes;
  follows =
      λ first f. c.note_unit.ensures.follows first (c.loop-search.invariant.follows first f);
}

pub returns-in_err-note_unit-clause-notes : goal.returns-in_err-note_unit-clause-notes
returns-in_err-note_unit-clause-notes g c =
    let l = c.loop-search in
    refused c.from_residual.result c.args.input.now (g.S.Sink.lines c.args.sink.now)
    (g.S.Sink.lines l.sink) (g.S.Sink.lines c.note_unit.new.sink) c.from_residual.ensures.0
    l.invariant.noting.keeps.runs.running.recorded.log
    l.invariant.noting.writes c.in_err-note_unit.ensures.err

pub returns-clause-notes : goal.returns-clause-notes
returns-clause-notes g c =
    let l = c.loop-search in
    let T = (l.search.engine).trail in
    record {
      leaves = record {
        keeps = l.invariant.noting.keeps;
        all =
            subst (λ X. length X ≤ l.search.noted) (sym (flat_zero T l.invariant.noting.flat))
            (let t = c.loop-search-test.false in let a = c.assigned.ensures.len in
            let m : length (literals_of T) ≡ length T =
            length-map T (λ (x : Assigned). x.literal) in omega arith);
      };
      writes = l.invariant.noting.writes;
      err = tt;
    }
