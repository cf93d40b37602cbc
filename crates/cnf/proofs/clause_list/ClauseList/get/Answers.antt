-- The clause begins where the one before it ends, and both places are within the literals.
use Rattle.std.proofs.Common.{◌≡◌, ◌<◌, ◌∙◌, ap, get_or, sym, length, arith}
use Rattle.std.proofs.lemmas.List.{get_or_default}
use Rattle.cnf.specs.Flat.{start_at}
use Rattle.cnf.proofs.Cutting.{length-cut, bounds_at, cut_at}
use Rattle.cnf.proofs.clause_list.ClauseList.get.Goals as goal
use Rattle.cnf.proofs.clause_list.ClauseList.get.Goals.{After-deref, After-index}

within : (c : After-deref) → c.args.place < length c.self.inside.ends.items
within c =
    let n : length c.args.self.now ≡ length c.self.inside.ends.items =
    ap length (sym c.self.view_is)
    ∙ length-cut 0 c.self.inside.lits.items c.self.inside.ends.items in
    omega (arith, n, c.requires)

begins : (c : After-index)
    → c.start_of-start.result ≡ start_at 0 c.self.inside.ends.items c.args.place
begins c = c.start_of-start.ensures ∙ ap (λ es. start_at 0 es c.args.place) c.deref.ensures.value

ends : (c : After-index) → c.index.result.now ≡ get_or c.self.inside.ends.items c.args.place 0
ends c = c.index.ensures ∙ get_or_default c.self.inside.ends.items c.args.place c.index.result.now 0
    (within (goal.at.After-index c).After-deref)

pub start_of-start-requires : goal.start_of-start-requires
start_of-start-requires c = rw (c.deref.ensures.value) (within c)

pub index-requires : goal.index-requires
index-requires c =
    omega (arith, within (goal.at.index-requires c).After-deref, c.self.inside.ends.ok.0)

pub part-requires : goal.part-requires
part-requires c =
    let at = (goal.at.part-requires c).After-index in
    let b =
    bounds_at 0 c.self.inside.ends.items (length c.self.inside.lits.items) c.args.place
    c.self.invariant.rise (within (goal.at.After-index at).After-deref) in
    let long = ap length c.deref-2.ensures.value in
    (omega (arith, b.0, begins at, ends at), omega (arith, b.1, ends at, long))

pub returns : goal.returns
returns c =
    let at = (goal.at.returns c).After-index in
    rw (c.part.ensures, c.deref-2.ensures.value, begins at, ends at, ← c.self.view_is)
    (cut_at 0 c.self.inside.lits.items c.self.inside.ends.items c.args.place
    (within (goal.at.After-index at).After-deref))
