use Rattle.std.proofs.Common.{◌≡◌, get_or, ◌∙◌, ap, arith}
use Rattle.propagate_watches.specs.Table.{attachment_in, rest_in, rest_after}
use Rattle.propagate_watches.specs.TableLayout.{attachments}
use Rattle.propagate_watches.proofs.Zipped.{watching_within, watching_rest, attachments_set_pair}
use Rattle.propagate_watches.proofs.table.Table.rewatch.Goals as goal

pub index-requires : goal.index-requires
index-requires c =
    let i = c.self.inside in
    let watching = rw (← c.self.view_is) at c.requires.2 in
    omega (
      arith,
      c.index-at.ensures,
      (watching_within i.tags.items i.pairs.items c.args.reference c.requires.0 c.requires.1
          watching).1,
      i.pairs.ok.0,
    )

pub index_mut-requires : goal.index_mut-requires
index_mut-requires c =
    let i = c.self.inside in
    let watching = rw (← c.self.view_is) at c.requires.2 in
    omega (
      arith,
      c.index-at.ensures,
      (watching_within i.tags.items i.pairs.items c.args.reference c.requires.0 c.requires.1
          watching).1,
      i.pairs.ok.0,
    )

pub returns : goal.returns
returns c =
    let i = c.self.inside in
    let r = c.args.reference in
    let p = c.index.result.now in
    let watching = rw (← c.self.view_is) at c.requires.2 in
    let at : p ≡ get_or i.pairs.items r p =
    c.index.ensures ∙ ap (λ k. get_or i.pairs.items k p) c.index-at.ensures in
    let rest : c.after-rest.result ≡ rest_after c.args.falsified
    (rest_in (attachment_in (attachments i.tags.items i.pairs.items) r)) =
    c.after-rest.ensures
    ∙ ap (rest_after c.args.falsified)
    (watching_rest i.tags.items i.pairs.items r p c.requires.0 c.requires.1 at watching) in
    rw (c.index-at.ensures, rest, ← c.self.view_is)
    (attachments_set_pair i.tags.items i.pairs.items r
    (record {
      one = c.args.one;
      other = c.args.other;
      rest = rest_after c.args.falsified
          (rest_in (attachment_in (attachments i.tags.items i.pairs.items) r));
    })
    c.requires.0 c.requires.1 watching)
