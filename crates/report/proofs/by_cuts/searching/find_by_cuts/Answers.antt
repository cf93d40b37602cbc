-- The writer has what its progress told.
use Rattle.std.proofs.Common.{◌≡◌, ◌∙◌, refl, sym, ap, subst, rules}
use Rattle.std.specs.Prelude.{Result, IfOk}
use Rattle.improve_found.specs.declared.found.CutsFound.{CutsFound}
use Rattle.report_text.specs.declared.fault.RunFault.{RunFault}
use Rattle.report.specs.ByCuts.{SearchesByCuts, IsShownByCuts, cuts_outcome}
use Rattle.report.proofs.Searched.{tells_none}
use Rattle.report.proofs.SearchedByCuts.{search_ended, search_shown}
use Rattle.report.proofs.by_cuts.searching.find_by_cuts.Goals as goal

pub returns-clause-searches : goal.returns-clause-searches
returns-clause-searches g c =
    let held = g.O.Write.contents in
    let p = c.args.search.task.instance.now in
    let h = c.args.solver.now.log.cost in
    let n = c.new-told.ensures in
    let i = c.improve_by_cuts-searched in
    let r = i.new.solver.refuted in
    let k = i.new.solver.log.cost in
    let t = i.ensures.follows c.new-told.result (refl, tells_none _ _ _ _ _ n.none) in
    let f = c.finish-writer.ensures in
    let w = c.has_write_failed.result in
    let result = c.conclude.ensures ∙ ap (λ x. cuts_outcome i.result x w) f.fault in
    let s =
    search_ended p h r k c.limits.ensures _ _ c.args.budget.now i.new.budget _ _ _
    n.none.0 n.none.1 t.1 i.result w i.ensures.finds in
    let first =
    subst (λ x. SearchesByCuts p h c.conclude.result r k (held x)
    (held i.new.progress.writer.now) c.args.budget.now i.new.budget) n.holds
    (subst (λ x. SearchesByCuts p h x r k (held c.new-told.result.writer.now)
    (held i.new.progress.writer.now) c.args.budget.now i.new.budget) (sym result) s) in
    let last : (w : g.row.O.Denot) → w ≡ c.finish-writer.result.writer.now
    → SearchesByCuts p h c.conclude.result r k (held c.args.out.now) (held w)
    c.args.budget.now i.new.budget =
    λ w e. subst (λ x. SearchesByCuts p h c.conclude.result r k (held c.args.out.now)
    (held x) c.args.budget.now i.new.budget) (sym (e ∙ ap (λ x. x.now) f.writer)) first in
    last _ (search rules)

pub returns-clause-shown : goal.returns-clause-shown
returns-clause-shown g c =
    let held = g.O.Write.contents in
    let p = c.args.search.task.instance.now in
    let i = c.improve_by_cuts-searched in
    let r = i.new.solver.refuted in
    let k = i.new.solver.log.cost in
    let a = g.K.SearchWatch.seen c.args.watch.now in
    let b = g.K.SearchWatch.seen i.new.watch in
    let h = c.args.solver.now.log.cost in
    let n = c.new-told.ensures in
    let t = i.ensures.follows c.new-told.result (refl, tells_none _ _ _ _ _ n.none) in
    let f = c.finish-writer.ensures in
    let w = c.has_write_failed.result in
    let result = c.conclude.ensures ∙ ap (λ x. cuts_outcome i.result x w) f.fault in
    let s =
    search_shown p h r k c.limits.ensures _ _ c.args.budget.now i.new.budget _ _ _
    n.none.0 n.none.1 t.1 i.result w a b i.ensures.finds i.ensures.shown in
    let first =
    subst (λ x. IfOk c.conclude.result (λ found. IsShownByCuts p h found r k (held x)
    (held i.new.progress.writer.now) i.new.budget a b)) n.holds
    (subst (λ (x : Result CutsFound RunFault). IfOk x (λ found. IsShownByCuts p h found r k
    (held c.new-told.result.writer.now) (held i.new.progress.writer.now) i.new.budget a b))
    (sym result) s) in
    let last : (w : g.row.O.Denot) → w ≡ c.finish-writer.result.writer.now
    → IfOk c.conclude.result (λ found. IsShownByCuts p h found r k (held c.args.out.now)
    (held w) i.new.budget a b) =
    λ w e. subst (λ x. IfOk c.conclude.result (λ found. IsShownByCuts p h found r k
    (held c.args.out.now) (held x) i.new.budget a b)) (sym (e ∙ ap (λ x. x.now) f.writer)) first in
    last _ (search rules)
