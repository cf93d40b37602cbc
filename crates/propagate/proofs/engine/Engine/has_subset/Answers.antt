use Rattle.std.proofs.Common.{◌≤◌, length, sym, subst}
use Rattle.std.proofs.lemmas.List.{take_all}
use Rattle.cnf.specs.Literal.{Literal}
use Rattle.propagate.proofs.Looking.{within_all}
use Rattle.propagate.proofs.Subsets.{AreRowsUnmarked, none_found, some_found}
use Rattle.propagate.proofs.engine.Engine.has_subset.Goals as goal

pub row_has_marked-requires-clause-in_range : goal.row_has_marked-requires-clause-in_range
row_has_marked-requires-clause-in_range c =
    let lits = c.args.lits.now in
    let n = c.args.self.now.variables in
    let k = c.lit-item.result in
    subst (λ (l : Literal). l.variable ≤ n) (sym c.lit-item.is)
    (within_all n lits c.requires.within.1 c.loop-lit.lit-index k c.loop-lit-test.true)

pub returns-then-row_has_marked-clause-some : goal.returns-then-row_has_marked-clause-some
returns-then-row_has_marked-clause-some c = λ e.
    some_found c.args.self.now c.args.store.now.slots c.args.marks.now c.args.lits.now
    c.requires.fits c.requires.marked (c.row_has_marked.ensures.some c.if-row_has_marked.true)

pub returns-clause-some : goal.returns-clause-some
returns-clause-some c = λ e.
    some_found c.args.self.now c.args.store.now.slots c.args.marks.now c.args.lits.now
    c.requires.fits c.requires.marked (c.waiting_has_marked.ensures.some e)

pub returns-clause-none : goal.returns-clause-none
returns-clause-none c = λ e.
    let x = c.args.self.now in
    let slots = c.args.store.now.slots in
    let lits = c.args.lits.now in
    let le : length lits ≤ c.loop-lit.lit-index = c.loop-lit-test.false in
    none_found x slots c.args.marks.now lits c.requires.fits c.requires.marked c.requires.untrue
    (subst (AreRowsUnmarked x slots c.args.marks.now) (take_all c.loop-lit.lit-index lits le)
    c.loop-lit.invariant) (c.waiting_has_marked.ensures.none e)
