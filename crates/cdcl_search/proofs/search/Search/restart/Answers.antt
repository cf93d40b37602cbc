use Rattle.std.proofs.Common.{false, ap, ◌∙◌}
use Rattle.cdcl_search.specs.declared.search.Search.{Search}
use Rattle.cdcl_search.proofs.EngineMoves.{runs_chosen}
use Rattle.cdcl_search.proofs.search.Search.restart.Goals as goal

pub returns-clause-runs : goal.returns-clause-runs
returns-clause-runs c p ls r =
    runs_chosen c.backtrack.new.self c.restart.new.self p ls
    (ap (λ x. x.variables) c.restart.ensures)
    (c.backtrack.ensures.moves.runs p ls r)

pub returns-clause-policy : goal.returns-clause-policy
returns-clause-policy c =
    c.restart.ensures
    ∙ ap (λ (s : Search). record s.policy { has_learned = false })
    c.backtrack.ensures.moves.engine.rest

pub returns-clause-rest : goal.returns-clause-rest
returns-clause-rest c =
    ap (λ (s : Search). record s { policy = c.restart.new.self })
    c.backtrack.ensures.moves.engine.rest
