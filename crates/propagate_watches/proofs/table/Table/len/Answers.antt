use Rattle.std.proofs.Common.{length, ap, arith}
use Rattle.clauses.proofs.Laws.{length-zipped}
use Rattle.propagate_watches.specs.TableLayout.{attachment_of}
use Rattle.propagate_watches.proofs.table.Table.len.Goals as goal

pub returns : goal.returns
returns c =
    let i = c.self.inside in
    omega (
      arith,
      c.len.ensures,
      i.tags.ok.0,
      length-zipped attachment_of i.tags.items i.pairs.items c.self.invariant,
      ap length c.self.view_is,
    )
