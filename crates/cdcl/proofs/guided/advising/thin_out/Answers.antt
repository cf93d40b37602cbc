use Rattle.std.proofs.Common.{refl}
use Rattle.cdcl_search.proofs.Laws.{writes_none}
use Rattle.cdcl.proofs.guided.advising.thin_out.Goals as goal

pub returns-then-not-may_delete-clause-reduces : goal.returns-then-not-may_delete-clause-reduces
returns-then-not-may_delete-clause-reduces g c = record {
  leaves =
      record { runs = c.requires.runs; long = refl; variables = refl; policy = refl };
  writes = writes_none c.args.input.now.given (g.S.Sink.lines c.args.sink.now);
  err = tt;
}
