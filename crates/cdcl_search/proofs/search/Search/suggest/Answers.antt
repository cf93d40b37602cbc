use Rattle.std.proofs.Common.{sym, subst}
use Rattle.propagate.specs.Trail.{kept_to}
use Rattle.cdcl_order.specs.Policies.{PolicyState}
use Rattle.cdcl_search.specs.Running.{MovesTo}
use Rattle.cdcl_search.proofs.search.Search.suggest.Goals as goal

pub returns : goal.returns
returns c =
    let s = c.args.self.now in
    let m = c.backtrack.new.self in
    subst (λ (x : PolicyState). MovesTo s (record m { policy = x }) (kept_to 0 s.engine.trail))
    (sym c.suggest.ensures.same_view) c.backtrack.ensures.moves
