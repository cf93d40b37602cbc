use Rattle.std.proofs.Common.{take, ap, ◌∙◌}
use Rattle.clauses.proofs.Laws.{zipped-take}
use Rattle.propagate_watches.specs.TableLayout.{attachment_of}
use Rattle.propagate_watches.proofs.table.Table.truncate.Goals as goal

pub returns : goal.returns
returns c =
    let i = c.self.inside in
    rw (c.truncate.ensures.items, c.truncate-2.ensures.items)
    (zipped-take attachment_of c.args.len i.tags.items i.pairs.items
    ∙ ap (take c.args.len) c.self.view_is)
