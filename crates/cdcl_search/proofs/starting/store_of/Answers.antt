use Rattle.std.proofs.Common.{◌∷◌, [], ◌++◌, map, Some, sym, ◌∙◌, ap}
use Rattle.std.proofs.lemmas.List.{append_assoc}
use Rattle.clauses.specs.Slots.{StoreState}
use Rattle.cdcl_search.proofs.starting.store_of.Goals as goal

pub loop-clause-preserved : goal.loop-clause-preserved
loop-clause-preserved c =
    let old = c.loop-clause.store.slots in
    let left = map Some c.next.new.self in
    ap (λ (s : StoreState). s.slots ++ left) c.in_ok-add.ensures.ok
    ∙ append_assoc old (Some c.in-Some.clause.now ∷ []) left
    ∙ ap (λ x. old ++ map Some x) (sym c.in-Some.ensures.steps) ∙ c.loop-clause.invariant
