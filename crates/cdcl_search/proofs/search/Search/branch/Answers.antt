use Rattle.std.proofs.Common.{refl, ap}
use Rattle.cdcl_search.proofs.EngineMoves.{runs_moved}
use Rattle.cdcl_search.proofs.search.Search.branch.Goals as goal

pub returns-in-Some-clause-runs : goal.returns-in-Some-clause-runs
returns-in-Some-clause-runs c p ls r =
    let s = c.args.self.now in
    c.decide.ensures.runs p ls (runs_moved s s.engine c.next.new.self p ls r refl
    (ap (λ o. o.variables) c.next.ensures.same_view) r.running)
