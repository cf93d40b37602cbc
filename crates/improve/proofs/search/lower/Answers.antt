-- The first cost is told; where it is 0 there is no bound.
use Rattle.std.proofs.Common.{◌≡◌, ◌+◌, [], ◌∷◌, sym, ◌∙◌, ap, subst, arith, append-nil}
use Rattle.std.proofs.lemmas.List.Elements.{All-nil, All-push}
use Rattle.cdcl_order.specs.Budgets.{left_of}
use Rattle.std.specs.Prelude.{IfOk}
use Rattle.improve_found.specs.Solutions.{IsCostOfSome, IsSolution}
use Rattle.improve.specs.Improving.{IsRightFound, work_count}
use Rattle.improve_found.proofs.Laws.{cost_of_solution, shown_told, shown_failed, shown_more}
use Rattle.improve.proofs.SearchEnds.{progress_end, found_end, on_work_weaker}
use Rattle.cnf.proofs.Laws.{on_ok_at, on_err_at}
use Rattle.improve.proofs.search.lower.Goals as goal

pub returns-then-is_err-clause-improves : goal.returns-then-is_err-clause-improves
returns-then-is_err-clause-improves g c = λ before paid.
    let p = c.args.instance.now in
    let first = c.args.start.first in
    let err = on_err_at c.tell.result c.if-is_err.ensures.value c.tell.ensures.err in
    progress_end c.args.start.profile p _ _ before c.args.budget.now (sym paid.limit) []
    (ap (λ t. t.told) err ∙ sym (append-nil _)) first.cost tt
    (All-push (IsCostOfSome p) [] first.cost (All-nil (IsCostOfSome p))
    (cost_of_solution p first.bits.items first.cost c.requires.solution))
    (ap (λ t. t.failed) err) (ap (λ t. t.failures) err)

pub conclude_zero-requires : goal.conclude_zero-requires
conclude_zero-requires g c =
    let zero : c.args.start.first.cost ≡ 0 = omega arith in
    record {
      solution =
          subst (IsSolution c.args.instance.now c.args.start.first.bits.items) zero
          c.requires.solution;
    }

pub returns-then-start-eq0-clause-improves : goal.returns-then-start-eq0-clause-improves
returns-then-start-eq0-clause-improves g c = λ before paid.
    let p = c.args.instance.now in
    let first = c.args.start.first in
    let left = c.args.budget.now in
    let zero : first.cost ≡ 0 = omega arith in
    let ok = on_ok_at c.tell.result c.if-is_err.ensures.value c.tell.ensures.ok in
    let r = c.conclude_zero in
    found_end c.args.start.profile p _ _ before left (sym paid.limit) (first.cost ∷ [])
    (ap (λ t. t.told) ok) r.result tt
    (All-push (IsCostOfSome p) [] first.cost (All-nil (IsCostOfSome p))
    (cost_of_solution p first.bits.items first.cost c.requires.solution))
    (ap (λ t. t.failures) ok) r.ensures.fault
    (subst (λ x. IfOk r.result (IsRightFound c.args.start.profile p (x ∷ []))) (sym zero)
    r.ensures.found) (omega (arith, paid.answers))
    (on_work_weaker r.result (λ w. ⊥) (λ w. left.learned ≡ before.learned + work_count w)
    (λ w x. absurd x) r.ensures.work)
    (on_work_weaker r.result (λ w. ⊥) (λ w. left_of left ≡ 0) (λ w x. absurd x) r.ensures.work)

pub lower_by_bounds-requires-clause-failures : goal.lower_by_bounds-requires-clause-failures
lower_by_bounds-requires-clause-failures g c =
    let ok = on_ok_at c.tell.result c.if-is_err.ensures.value c.tell.ensures.ok in
    omega (arith, c.requires.failures, ap (λ t. t.failures) ok)

pub returns-clause-follows : goal.returns-clause-follows
returns-clause-follows g c =
    λ first h. c.lower_by_bounds.ensures.follows first (c.tell.ensures.follows first h)

pub returns-clause-improves : goal.returns-clause-improves
returns-clause-improves g c = λ before paid.
    let ok = on_ok_at c.tell.result c.if-is_err.ensures.value c.tell.ensures.ok in
    c.lower_by_bounds.ensures.ends (g.T.Progress.state c.args.progress.now) before
    (record { told = ap (λ t. t.told) ok; failures = ap (λ t. t.failures) ok })
    (record {
      limit = sym paid.limit;
      answers = omega (arith, paid.answers);
      learned = omega (arith, paid.learned);
    })

pub returns-then-is_err-clause-shown : goal.returns-then-is_err-clause-shown
returns-then-is_err-clause-shown g c =
    let err = on_err_at c.tell.result c.if-is_err.ensures.value c.tell.ensures.err in
    shown_failed c.args.instance.now (g.T.Progress.state c.args.progress.now) _
    (g.W.SearchWatch.seen c.args.watch.now) _ c.args.start.first.cost c.args.start.first.bits.items
    c.requires.solution c.tell.ensures.shown err

pub returns-then-start-eq0-clause-shown : goal.returns-then-start-eq0-clause-shown
returns-then-start-eq0-clause-shown g c =
    let ok = on_ok_at c.tell.result c.if-is_err.ensures.value c.tell.ensures.ok in
    shown_told c.args.instance.now (g.T.Progress.state c.args.progress.now) _
    (g.W.SearchWatch.seen c.args.watch.now) _ c.args.start.first.cost c.args.start.first.bits.items
    c.requires.solution c.tell.ensures.shown ok

pub returns-clause-shown : goal.returns-clause-shown
returns-clause-shown g c =
    let ok = on_ok_at c.tell.result c.if-is_err.ensures.value c.tell.ensures.ok in
    shown_more c.args.instance.now _ _ _ _ _ _
    (shown_told c.args.instance.now (g.T.Progress.state c.args.progress.now) _
    (g.W.SearchWatch.seen c.args.watch.now) _ c.args.start.first.cost c.args.start.first.bits.items
    c.requires.solution c.tell.ensures.shown ok) (ap (λ t. t.failures) ok)
    c.lower_by_bounds.ensures.shown
