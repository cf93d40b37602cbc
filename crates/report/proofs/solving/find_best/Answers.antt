-- The writer has what its progress told.
use Rattle.std.proofs.Common.{◌≡◌, ◌∙◌, refl, sym, ap, subst, rules}
use Rattle.std.specs.Prelude.{Result, IfOk}
use Rattle.improve_found.specs.declared.found.Found.{Found}
use Rattle.report_text.specs.declared.fault.RunFault.{RunFault}
use Rattle.report.specs.Running.{Searches, outcome_of}
use Rattle.report.specs.Seen.{IsShownFor}
use Rattle.report.proofs.Searched.{search_ended, search_shown, tells_none}
use Rattle.report.proofs.solving.find_best.Goals as goal

pub returns-clause-searches : goal.returns-clause-searches
returns-clause-searches g c =
    let held = g.O.Write.contents in
    let p = c.args.task.instance.now in
    let n = c.new-told.ensures in
    let t =
    c.search-searched.ensures.follows c.new-told.result
    (refl, tells_none _ _ _ _ _ n.none) in
    let f = c.finish-writer.ensures in
    -- it is still the caller's writer
    let name = ap (λ w. w.ghost_name) f.writer ∙ t.0 ∙ n.writer in
    let result = c.conclude.ensures ∙ ap (outcome_of c.search-searched.result) f.fault in
    let s =
    search_ended c.args.profile p c.limits.ensures _ _ c.args.budget.now
    c.search-searched.new.budget _ _ _ n.none.0 n.none.1 t.1
    c.search-searched.result c.search-searched.ensures.improves in
    let first =
    subst (λ x. Searches c.args.profile p c.conclude.result (held x)
    (held c.search-searched.new.progress.writer.now) c.args.budget.now
    c.search-searched.new.budget) n.holds
    (subst (λ x. Searches c.args.profile p x (held c.new-told.result.writer.now)
    (held c.search-searched.new.progress.writer.now) c.args.budget.now
    c.search-searched.new.budget) (sym result) s) in
    let last : (w : g.row.O.Denot) → w ≡ c.finish-writer.result.writer.now
    → Searches c.args.profile p c.conclude.result (held c.args.out.now) (held w) c.args.budget.now
    c.search-searched.new.budget =
    λ w e. subst (λ x. Searches c.args.profile p c.conclude.result (held c.args.out.now)
    (held x) c.args.budget.now c.search-searched.new.budget)
    (sym (e ∙ ap (λ x. x.now) f.writer)) first in
    last _ (search rules)

pub returns-clause-shown : goal.returns-clause-shown
returns-clause-shown g c =
    let held = g.O.Write.contents in
    let p = c.args.task.instance.now in
    let a = g.K.SearchWatch.seen c.args.watch.now in
    let b = g.K.SearchWatch.seen c.search-searched.new.watch in
    let n = c.new-told.ensures in
    let t =
    c.search-searched.ensures.follows c.new-told.result
    (refl, tells_none _ _ _ _ _ n.none) in
    let f = c.finish-writer.ensures in
    let result = c.conclude.ensures ∙ ap (outcome_of c.search-searched.result) f.fault in
    let s =
    search_shown c.args.profile p c.limits.ensures _ _ c.args.budget.now
    c.search-searched.new.budget _ _ _ n.none.0 n.none.1 t.1
    c.search-searched.result a b c.search-searched.ensures.improves
    c.search-searched.ensures.shown in
    let first =
    subst (λ x. IfOk c.conclude.result (λ found. IsShownFor c.args.profile p found (held x)
    (held c.search-searched.new.progress.writer.now) a b)) n.holds
    (subst (λ (x : Result Found RunFault). IfOk x (λ found. IsShownFor c.args.profile p found
    (held c.new-told.result.writer.now) (held c.search-searched.new.progress.writer.now) a b))
    (sym result) s) in
    let last : (w : g.row.O.Denot) → w ≡ c.finish-writer.result.writer.now
    → IfOk c.conclude.result (λ found. IsShownFor c.args.profile p found (held c.args.out.now)
    (held w) a b) =
    λ w e. subst (λ x. IfOk c.conclude.result (λ found. IsShownFor c.args.profile p found
    (held c.args.out.now) (held x) a b)) (sym (e ∙ ap (λ x. x.now) f.writer)) first in
    last _ (search rules)
