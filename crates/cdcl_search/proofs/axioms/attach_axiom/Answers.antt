use Rattle.std.proofs.Common.{◌≡◌, ◌+◌, ◌<◌, ◌^◌, List, ap, sym, subst}
use Rattle.propagate.specs.Trail.{Assigned, depth_of}
use Rattle.lrat_log.specs.declared.lines.Name.TheVariants.{Added}
use Rattle.cdcl_search.specs.declared.search.Search.{Search}
use Rattle.cdcl_search.specs.Levelling.{IsPlaceable}
use Rattle.cdcl_search.specs.Running.{Stores}
use Rattle.cdcl_search.proofs.OutsideClauses.{runs_axiom}
use Rattle.cdcl_search.proofs.Ranked.{placeable_kept}
use Rattle.cdcl_search.proofs.axioms.attach_axiom.Goals as goal

pub returns-clause-takes : goal.returns-clause-takes
returns-clause-takes c = λ p ls r.
    let m : Search = c.backtrack.new.self in
    let n : Search = c.attach_clause.new.self in
    let T = (c.args.search.now.engine).trail in
    let lits = c.args.lits.now in
    let placeable : IsPlaceable m.engine.trail lits (depth_of m.engine.trail) =
    subst (λ (X : List Assigned). IsPlaceable X lits (depth_of X))
    (sym c.backtrack.ensures.moves.trail)
    (placeable_kept T lits c.level_for-level.result c.level_for-level.ensures.placeable) in
    let same : m.additions ≡ c.args.search.now.additions =
    ap (λ (x : Search). x.additions) c.backtrack.ensures.moves.engine.rest in
    runs_axiom m n p ls lits (c.backtrack.ensures.moves.runs p ls r) placeable c.requires.some
    c.requires.new
    (subst (λ k. Stores m n (Added k) lits) c.new.ensures c.in_ok-reference.ensures.stored)
    c.attach_clause.ensures.additions
    (subst (λ k. k + 1 < 2 ^ 61) (sym same) c.requires.few)
