use Rattle.std.proofs.Common.{◌≡◌, ◌≢◌, get_or, ◌∙◌, ap, arith, rules}
use Rattle.propagate_watches.proofs.Zipped.{watched_within, watched_rest, beside_one, beside_other}
use Rattle.propagate_watches.proofs.table.Table.other.Goals as goal

pub index-requires-2 : goal.index-requires-2
index-requires-2 c =
    let i = c.self.inside in
    let by = rw (← c.self.view_is) at c.requires.1 in
    omega (
      arith,
      c.index.ensures,
      watched_within i.tags.items i.pairs.items c.args.reference c.args.watched c.requires.0 by,
      i.pairs.ok.0,
    )

pub returns-then-eq-clause-other : goal.returns-then-eq-clause-other
returns-then-eq-clause-other c =
    let i = c.self.inside in
    let p = c.index-2.result.now in
    let at : p ≡ get_or i.pairs.items c.args.reference p =
    c.index-2.ensures ∙ ap (λ k. get_or i.pairs.items k p) c.index.ensures in
    let same : p.one ≡ c.args.watched = search rules in
    rw (← c.self.view_is) (beside_one i.tags.items i.pairs.items c.args.reference p c.args.watched
    c.requires.0 at (rw (← c.self.view_is) at c.requires.1) same)

pub returns-then-eq-clause-rest : goal.returns-then-eq-clause-rest
returns-then-eq-clause-rest c =
    let i = c.self.inside in
    let p = c.index-2.result.now in
    let at : p ≡ get_or i.pairs.items c.args.reference p =
    c.index-2.ensures ∙ ap (λ k. get_or i.pairs.items k p) c.index.ensures in
    rw (← c.self.view_is) (watched_rest i.tags.items i.pairs.items c.args.reference p
    c.args.watched c.requires.0 at (rw (← c.self.view_is) at c.requires.1))

pub returns-else-eq-clause-other : goal.returns-else-eq-clause-other
returns-else-eq-clause-other c =
    let i = c.self.inside in
    let p = c.index-2.result.now in
    let at : p ≡ get_or i.pairs.items c.args.reference p =
    c.index-2.ensures ∙ ap (λ k. get_or i.pairs.items k p) c.index.ensures in
    let apart : p.one ≢ c.args.watched = search rules in
    rw (← c.self.view_is) (beside_other i.tags.items i.pairs.items c.args.reference p
    c.args.watched c.requires.0 at (rw (← c.self.view_is) at c.requires.1) apart)

pub returns-else-eq-clause-rest : goal.returns-else-eq-clause-rest
returns-else-eq-clause-rest c =
    let i = c.self.inside in
    let p = c.index-2.result.now in
    let at : p ≡ get_or i.pairs.items c.args.reference p =
    c.index-2.ensures ∙ ap (λ k. get_or i.pairs.items k p) c.index.ensures in
    rw (← c.self.view_is) (watched_rest i.tags.items i.pairs.items c.args.reference p
    c.args.watched c.requires.0 at (rw (← c.self.view_is) at c.requires.1))
