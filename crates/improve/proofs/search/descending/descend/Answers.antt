-- What was told are the bounds so far and the cost in hand.
use Rattle.std.proofs.Common.{◌≡◌, ℕ, [], ◌∷◌, ◌++◌, refl, ◌∙◌, ap, arith}
use Rattle.std.specs.declared.vec.Vec.{Vec}
use Rattle.std.specs.declared.alloc.Global.{Global}
use Rattle.lrat_log.specs.Steps.{learned_count}
use Rattle.improve_found.specs.declared.found.ImproveFault.TheVariants.{Memory, Progress}
use Rattle.improve_found.proofs.Laws.{cost_of_solution, cost_small, shown_none, shown_then}
use Rattle.improve_found.proofs.Laws.{shown_more, shown_told, shown_failed}
use Rattle.cnf.proofs.Laws.{on_ok_at, on_err_at}
use Rattle.improve.proofs.Standings.{goes_cheaper, goes_first, goes_further, fails_memory}
use Rattle.improve.proofs.Standings.{fails_progress, fails_after, descends_last}
use Rattle.improve.proofs.search.descending.descend.Goals as goal

pub bounds-init : goal.bounds-init
bounds-init g c = record {
  over = c.requires.over;
  profile = refl;
  hard = refl;
  goes_on =
      goes_first c.args.instance.now (g.T.Progress.state c.args.progress.now) c.args.budget.now
      c.args.descent.now.best c.args.descent.now.bounds c.requires.solution c.requires.none;
  follows = λ first h. h;
  shown =
      shown_none c.args.instance.now (g.T.Progress.state c.args.progress.now)
      (g.W.SearchWatch.seen c.args.watch.now);
  waives = refl;
}

pub add-requires-clause-small : goal.add-requires-clause-small
add-requires-clause-small g c =
    let i = c.bounds.invariant in
    let p = c.args.instance.now in
    let best = c.bounds.descent.best in
    let small =
    cost_small p best.cost i.over.instance
    (cost_of_solution p best.bits.items best.cost i.goes_on.standing.solution) in
    omega (arith, small)

pub returns-then-is_err-clause-fails : goal.returns-then-is_err-clause-fails
returns-then-is_err-clause-fails g c =
    let i = c.bounds.invariant in
    fails_after _ _ _ _ _ _ _ _ _ _ _ i.goes_on Memory
    (fails_memory c.args.instance.now (g.T.Progress.state c.bounds.progress)
    (g.T.Progress.state c.bounds.progress) c.bounds.budget c.bounds.budget
    (record { best = c.bounds.descent.best; earlier = c.bounds.descent.bounds.costs.items })
    i.goes_on.standing refl refl)

pub returns-in-Err-clause-fails : goal.returns-in-Err-clause-fails
returns-in-Err-clause-fails g c =
    let i = c.bounds.invariant in
    fails_after _ _ _ _ _ _ _ _ _ _ _ i.goes_on Memory
    (fails_memory c.args.instance.now (g.T.Progress.state c.bounds.progress)
    (g.T.Progress.state c.bounds.progress) c.bounds.budget c.solve.new.budget
    (record { best = c.bounds.descent.best; earlier = c.bounds.descent.bounds.costs.items })
    i.goes_on.standing c.solve.ensures.limit refl)

pub solve-requires-clause-over : goal.solve-requires-clause-over
solve-requires-clause-over g c = on_ok_at c.add.result c.if-is_err.ensures.value c.add.ensures.over

pub solve-requires-clause-bounded : goal.solve-requires-clause-bounded
solve-requires-clause-bounded g c = (
  c.bounds.descent.best.cost,
  (
    c.bounds.descent.bounds.costs.items,
    on_ok_at c.add.result c.if-is_err.ensures.value c.add.ensures.costs,
  ),
)

pub tell-requires-clause-solution : goal.tell-requires-clause-solution
tell-requires-clause-solution g c =
    let next = rw c.in-Ok-Cheaper.field-0-is at c.in-Ok-Cheaper.ensures.next in next.solution

pub tell-requires-clause-failures : goal.tell-requires-clause-failures
tell-requires-clause-failures g c =
    omega (arith, c.requires.failures, c.bounds.invariant.goes_on.failures)

pub returns-then-is_err-2-clause-fails : goal.returns-then-is_err-2-clause-fails
returns-then-is_err-2-clause-fails g c =
    let p = c.args.instance.now in
    let i = c.bounds.invariant in
    let costs = c.bounds.descent.bounds.costs.items in
    let best = c.bounds.descent.best in
    let cost = c.in-Ok-Cheaper.solution.cost in
    let next = rw c.in-Ok-Cheaper.field-0-is at c.in-Ok-Cheaper.ensures.next in
    let err = on_err_at c.tell.result c.if-is_err-2.ensures.value c.tell.ensures.err in
    let more : c.solve.new.self.costs.items ≡ costs ++ best.cost ∷ [] =
    ap (λ (v : Vec ℕ Global). v.items) c.solve.ensures.costs
    ∙ on_ok_at c.add.result c.if-is_err.ensures.value c.add.ensures.costs in
    fails_after _ _ _ _ _ _ _ _ _ _ _ i.goes_on Progress
    (fails_progress p (g.T.Progress.state c.bounds.progress)
    (g.T.Progress.state c.tell.new.progress)
    c.bounds.budget c.solve.new.budget
    (record { best = c.bounds.descent.best; earlier = c.bounds.descent.bounds.costs.items })
    i.goes_on.standing c.solve.ensures.limit cost
    c.in-Ok-Cheaper.solution.bits.items next.solution (next.below costs best.cost more) err)

pub bounds-smaller : goal.bounds-smaller
bounds-smaller g c =
    let added = on_ok_at c.add.result c.if-is_err.ensures.value c.add.ensures.costs in
    let next = rw c.in-Ok-Cheaper.field-0-is at c.in-Ok-Cheaper.ensures.next in
    next.below c.bounds.descent.bounds.costs.items c.bounds.descent.best.cost
    (ap (λ (v : Vec ℕ Global). v.items) c.solve.ensures.costs ∙ added)

pub bounds-preserved : goal.bounds-preserved
bounds-preserved g c =
    let p = c.args.instance.now in
    let i = c.bounds.invariant in
    let costs = c.bounds.descent.bounds.costs.items in
    let best = c.bounds.descent.best in
    let next = rw c.in-Ok-Cheaper.field-0-is at c.in-Ok-Cheaper.ensures.next in
    let ok = on_ok_at c.tell.result c.if-is_err-2.ensures.value c.tell.ensures.ok in
    let added = on_ok_at c.add.result c.if-is_err.ensures.value c.add.ensures.costs in
    let same = on_ok_at c.add.result c.if-is_err.ensures.value c.add.ensures.profile in
    let unlearned = on_ok_at c.add.result c.if-is_err.ensures.value c.add.ensures.learned in
    let more : c.solve.new.self.costs.items ≡ costs ++ best.cost ∷ [] =
    ap (λ (v : Vec ℕ Global). v.items) c.solve.ensures.costs ∙ added in
    record {
      over = c.in-Ok-Cheaper.ensures.over;
      profile = c.solve.ensures.profile ∙ same ∙ i.profile;
      hard = i.hard;
      goes_on =
          goes_further p _ _ _ _ _ _ _ _ _ 0
          (learned_count c.bounds.descent.bounds.solver.sink)
          (learned_count c.solve.new.self.solver.sink) i.goes_on
          (goes_cheaper p _ _ _ _
          (record { best = c.bounds.descent.best; earlier = c.bounds.descent.bounds.costs.items })
          (record { best = c.in-Ok-Cheaper.solution; earlier = c.solve.new.self.costs.items })
          i.goes_on.standing more (next.below costs best.cost more) next.solution ok next.answers
          c.solve.ensures.limit (learned_count c.bounds.descent.bounds.solver.sink)
          (learned_count c.solve.new.self.solver.sink)
          (omega (arith, c.solve.ensures.learned, unlearned)));
      follows = λ first h. c.tell.ensures.follows first (i.follows first h);
      shown =
          shown_more p _ _ _ _ _ _ (shown_then p _ _ _ _ _ i.shown c.solve.ensures.same_seen)
          i.goes_on.failures
          (shown_told p (g.T.Progress.state c.bounds.progress) _ _ _
          c.in-Ok-Cheaper.solution.cost c.in-Ok-Cheaper.solution.bits.items next.solution
          c.tell.ensures.shown ok);
      waives = omega (arith, i.waives, c.solve.ensures.waives, c.tell.ensures.same_waived);
    }

pub returns-then-is_err-2-clause-follows : goal.returns-then-is_err-2-clause-follows
returns-then-is_err-2-clause-follows g c =
    λ first h. c.tell.ensures.follows first (c.bounds.invariant.follows first h)

pub returns-in-Err-clause-shown : goal.returns-in-Err-clause-shown
returns-in-Err-clause-shown g c =
    shown_then c.args.instance.now _ _ _ _ _ c.bounds.invariant.shown c.solve.ensures.same_seen

pub returns-in-Ok-Refuted-clause-shown : goal.returns-in-Ok-Refuted-clause-shown
returns-in-Ok-Refuted-clause-shown g c =
    shown_then c.args.instance.now _ _ _ _ _ c.bounds.invariant.shown c.solve.ensures.same_seen

pub returns-in-Ok-Spent-clause-shown : goal.returns-in-Ok-Spent-clause-shown
returns-in-Ok-Spent-clause-shown g c =
    shown_then c.args.instance.now _ _ _ _ _ c.bounds.invariant.shown c.solve.ensures.same_seen

pub returns-then-is_err-2-clause-shown : goal.returns-then-is_err-2-clause-shown
returns-then-is_err-2-clause-shown g c =
    let p = c.args.instance.now in
    let i = c.bounds.invariant in
    let next = rw c.in-Ok-Cheaper.field-0-is at c.in-Ok-Cheaper.ensures.next in
    let err = on_err_at c.tell.result c.if-is_err-2.ensures.value c.tell.ensures.err in
    shown_more p _ _ _ _ _ _ (shown_then p _ _ _ _ _ i.shown c.solve.ensures.same_seen)
    i.goes_on.failures
    (shown_failed p (g.T.Progress.state c.bounds.progress) _ _ _ c.in-Ok-Cheaper.solution.cost
    c.in-Ok-Cheaper.solution.bits.items next.solution c.tell.ensures.shown err)

pub returns-in-Ok-Refuted-clause-profile : goal.returns-in-Ok-Refuted-clause-profile
returns-in-Ok-Refuted-clause-profile g c =
    c.solve.ensures.profile
    ∙ on_ok_at c.add.result c.if-is_err.ensures.value c.add.ensures.profile
    ∙ c.bounds.invariant.profile

pub returns-in-Ok-Refuted-clause-descends : goal.returns-in-Ok-Refuted-clause-descends
returns-in-Ok-Refuted-clause-descends g c =
    let next = rw c.in-Ok-Refuted.field-0-is at c.in-Ok-Refuted.ensures.next in
    descends_last c.args.instance.now _ _ _ _ _ _ _ c.bounds.descent.bounds.costs.items
    (learned_count c.bounds.descent.bounds.solver.sink) c.add.new.self c.solve.new.self
    c.bounds.invariant.goes_on
    (on_ok_at c.add.result c.if-is_err.ensures.value c.add.ensures.costs)
    (on_ok_at c.add.result c.if-is_err.ensures.value c.add.ensures.learned)
    c.solve.ensures.costs c.solve.ensures.limit next.answers c.solve.ensures.learned

pub returns-in-Ok-Spent-clause-profile : goal.returns-in-Ok-Spent-clause-profile
returns-in-Ok-Spent-clause-profile g c =
    c.solve.ensures.profile
    ∙ on_ok_at c.add.result c.if-is_err.ensures.value c.add.ensures.profile
    ∙ c.bounds.invariant.profile

pub returns-in-Ok-Spent-clause-descends : goal.returns-in-Ok-Spent-clause-descends
returns-in-Ok-Spent-clause-descends g c =
    let next = rw c.in-Ok-Spent.field-0-is at c.in-Ok-Spent.ensures.next in
    descends_last c.args.instance.now _ _ _ _ _ _ _ c.bounds.descent.bounds.costs.items
    (learned_count c.bounds.descent.bounds.solver.sink) c.add.new.self c.solve.new.self
    c.bounds.invariant.goes_on
    (on_ok_at c.add.result c.if-is_err.ensures.value c.add.ensures.costs)
    (on_ok_at c.add.result c.if-is_err.ensures.value c.add.ensures.learned)
    c.solve.ensures.costs c.solve.ensures.limit next.answers c.solve.ensures.learned

pub returns-in-Ok-Refuted-clause-end : goal.returns-in-Ok-Refuted-clause-end
returns-in-Ok-Refuted-clause-end g c =
    let next = rw c.in-Ok-Refuted.field-0-is at c.in-Ok-Refuted.ensures.next in next.accepted

pub returns-in-Ok-Spent-clause-end : goal.returns-in-Ok-Spent-clause-end
returns-in-Ok-Spent-clause-end g c =
    let added = on_ok_at c.add.result c.if-is_err.ensures.value c.add.ensures.costs in
    let next = rw c.in-Ok-Spent.field-0-is at c.in-Ok-Spent.ensures.next in
    record {
      open_end = next.open_end;
      above_zero =
          next.above_zero c.bounds.descent.bounds.costs.items c.bounds.descent.best.cost
          (ap (λ (v : Vec ℕ Global). v.items) c.solve.ensures.costs ∙ added);
      none_left = next.none_left;
    }
