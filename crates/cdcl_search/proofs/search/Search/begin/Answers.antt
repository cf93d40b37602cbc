use Rattle.std.proofs.Common.{false, refl, ap, ◌∙◌}
use Rattle.cdcl_search.specs.declared.search.Search.{Search}
use Rattle.cdcl_search.proofs.EngineMoves.{ready_moved, runs_chosen}
use Rattle.cdcl_search.proofs.search.Search.begin.Goals as goal

pub returns-clause-runs : goal.returns-clause-runs
returns-clause-runs c p ls r =
    runs_chosen c.backtrack.new.self c.begin.new.self p ls (ap (λ x. x.variables) c.begin.ensures)
    (c.backtrack.ensures.moves.runs p ls r)

pub returns-clause-ready : goal.returns-clause-ready
returns-clause-ready c =
    let m = c.backtrack.new.self in
    let ready = c.backtrack.ensures.moves.ready in
    ready_moved m m.engine c.begin.new.self ready refl (ap (λ x. x.variables) c.begin.ensures)
    ready.searches

pub returns-clause-policy : goal.returns-clause-policy
returns-clause-policy c =
    c.begin.ensures
    ∙ ap (λ (s : Search). record s.policy { has_learned = false })
    c.backtrack.ensures.moves.engine.rest

pub returns-clause-rest : goal.returns-clause-rest
returns-clause-rest c =
    ap (λ (s : Search). record s { policy = c.begin.new.self })
    c.backtrack.ensures.moves.engine.rest
