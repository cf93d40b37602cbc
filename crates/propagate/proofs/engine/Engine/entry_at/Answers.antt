use Rattle.std.proofs.Common.{◌≡◌, get_or, sym, ap, subst, ◌∙◌}
use Rattle.std.specs.Prelude.{slice_get}
use Rattle.cnf.specs.Literal.{index_of}
use Rattle.propagate_watches.specs.Pool.{row_at}
use Rattle.propagate.specs.Watches.{EngineState, IsEngine}
use Rattle.propagate.proofs.Stepping.{watched_from, got_at}
use Rattle.propagate.proofs.engine.Engine.entry_at.Goals as goal
use Rattle.propagate.proofs.engine.Engine.entry_at.Goals.{After-get}

at : (c : After-get) → c.get.result ≡ get_or (row_at c.args.self.now.watches.rows
    (index_of c.args.falsified)) c.args.read c.get.result
at c =
    let row = row_at c.args.self.now.watches.rows (index_of c.args.falsified) in
    got_at row c.args.read c.get.result
    (sym (ap (λ k. slice_get (row_at c.self.inside.pool k) c.args.read) c.index.ensures.index
    ∙ ap (λ (e : EngineState). slice_get (row_at e.watches.rows (index_of c.args.falsified))
    c.args.read) c.self.view_is) ∙ c.get.ensures)

pub returns-clause-at : goal.returns-clause-at
returns-clause-at c = at (goal.at.returns-clause-at c).After-get

pub returns-clause-known : goal.returns-clause-known
returns-clause-known c =
    watched_from c.args.store.now.slots c.args.self.now c.args.falsified c.args.write c.args.read
    c.get.result (subst IsEngine c.self.view_is c.self.invariant) c.requires.state c.requires.more
    (at (goal.at.returns-clause-known c).After-get)
