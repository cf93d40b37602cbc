use Rattle.std.proofs.Common.{arith}
use Rattle.cdcl_search.proofs.NotedUnits.{keeps_trail}
use Rattle.cdcl_search.proofs.Written.{writes_none}
use Rattle.cdcl_search.proofs.noting.note_level.Goals as goal

pub returns-then-depth-gt0-clause-notes : goal.returns-then-depth-gt0-clause-notes
returns-then-depth-gt0-clause-notes g c =
    let p = c.args.input.now in
    let ls = g.S.Sink.lines c.args.sink.now in
    record {
      leaves = record {
        keeps = keeps_trail c.args.search.now p ls c.requires.runs;
        all =
            c.requires.runs.running.units.all
            (omega (arith, c.depth.ensures, c.if-depth-gt0.true));
      };
      writes = writes_none p.given ls;
      err = tt;
    }
