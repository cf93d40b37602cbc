-- The one solution was told, or could not be; or nothing was.
use Rattle.std.proofs.Common.{◌≡◌, ◌∙◌, Ok, Err, refl, sym, ap, subst, rules, true, false, Some}
use Rattle.cnf.proofs.Laws.{on_ok_at, on_err_at}
use Rattle.improve_found.specs.declared.found.ImproveFault.TheVariants.{Progress}
use Rattle.improve_found.specs.Progress.{Telling}
use Rattle.improve_found.specs.declared.found.CutsFound.{CutsFound}
use Rattle.report.specs.ByCuts.{IsShownByCuts, SearchesByCuts}
use Rattle.report.specs.Earlier.{EndsAt}
use Rattle.report.proofs.AtOnce.{failed_one, none_right, none_shown, one_shown, told_one}
use Rattle.report.proofs.AtOnce.{unpaid_right}
use Rattle.report.proofs.Searched.{tells_none}
use Rattle.report.proofs.SearchedByCuts.{search_ended, search_shown}
use Rattle.report.proofs.by_cuts.searching.find_at_once.Goals as goal

pub tell-requires-clause-solution : goal.tell-requires-clause-solution
tell-requires-clause-solution g c =
    let p = c.args.search.task.instance.now in
    (subst (EndsAt p c.requires.0) c.in-Some.is c.requires.1).begins.0

pub returns-in_default-clause-shown : goal.returns-in_default-clause-shown
returns-in_default-clause-shown g c limit e =
    let p = c.args.search.task.instance.now in
    let left = c.args.budget.now in
    none_shown p limit _ left (none_right p limit left (subst (EndsAt p limit) c.in_default.is e))
    (g.O.Write.contents c.args.out.now) (g.K.SearchWatch.seen c.args.watch.now)

pub returns-then-left-eq0-clause-shown : goal.returns-then-left-eq0-clause-shown
returns-then-left-eq0-clause-shown g c limit e =
    let p = c.args.search.task.instance.now in
    let left = c.args.budget.now in
    none_shown p limit _ left
    (unpaid_right p limit left (sym c.left.ensures.left ∙ c.if-left-eq0.true))
    (g.O.Write.contents c.args.out.now) (g.K.SearchWatch.seen c.args.watch.now)

pub returns-then-has_failed-clause-searches : goal.returns-then-has_failed-clause-searches
returns-then-has_failed-clause-searches g c limit e =
    let held = g.O.Write.contents in
    let p = c.args.search.task.instance.now in
    let old = c.args.budget.now in
    let left = c.count_answer.new.self in
    let at = subst (EndsAt p limit) c.in-Some.is e in
    let n = c.new-told.ensures in
    let i = c.tell.new.progress in
    let t = c.tell.ensures.follows c.new-told.result (refl, tells_none _ _ _ _ _ n.none) in
    let f = c.finish-writer.ensures in
    let was : Telling = record {
      told = c.new-told.result.costs.items;
      failed = c.new-told.result.failed;
      failures = c.new-told.result.failures;
    } in
    let telling = on_err_at c.tell.result c.if-has_failed.ensures.value c.tell.ensures.err in
    let s =
    search_ended p limit true limit c.limits.ensures _ _ old left _ _ _
    n.none.0 n.none.1 t.1 (Err Progress) false
    (failed_one p limit c.in-Some.solution at was _ old left c.count_answer.ensures telling) in
    let first =
    subst (λ x. SearchesByCuts p limit (Err c.finish-writer.result.fault) true limit
    (held x) (held i.writer.now) old left) n.holds
    (subst (λ x. SearchesByCuts p limit (Err x) true limit (held c.new-told.result.writer.now)
    (held i.writer.now) old left) (sym f.fault) s) in
    let last : (w : g.row.O.Denot) → w ≡ c.finish-writer.result.writer.now
    → SearchesByCuts p limit (Err c.finish-writer.result.fault) true limit
    (held c.args.out.now) (held w) old left =
    λ w h. subst (λ x. SearchesByCuts p limit (Err c.finish-writer.result.fault) true limit
    (held c.args.out.now) (held x) old left) (sym (h ∙ ap (λ x. x.now) f.writer)) first in
    last _ (search rules)

pub returns-clause-searches : goal.returns-clause-searches
returns-clause-searches g c limit e =
    let held = g.O.Write.contents in
    let p = c.args.search.task.instance.now in
    let b = c.in-Some.solution in
    let found : CutsFound = record { best = Some b; is_proved = true } in
    let old = c.args.budget.now in
    let left = c.count_answer.new.self in
    let at = subst (EndsAt p limit) c.in-Some.is e in
    let n = c.new-told.ensures in
    let i = c.tell.new.progress in
    let t = c.tell.ensures.follows c.new-told.result (refl, tells_none _ _ _ _ _ n.none) in
    let f = c.finish-writer.ensures in
    let telling = on_ok_at c.tell.result c.if-has_failed.ensures.value c.tell.ensures.ok in
    let s =
    search_ended p limit true b.cost c.limits.ensures _ _ old left _ _ _
    n.none.0 n.none.1 t.1 (Ok found) false
    (told_one p limit b at _ _ old left c.count_answer.ensures telling) in
    let first =
    subst (λ x. SearchesByCuts p limit (Ok found) true b.cost (held x) (held i.writer.now) old left)
    n.holds s in
    let last : (w : g.row.O.Denot) → w ≡ c.finish-writer.result.writer.now
    → SearchesByCuts p limit (Ok found) true b.cost (held c.args.out.now) (held w) old left =
    λ w h. subst (λ x. SearchesByCuts p limit (Ok found) true b.cost (held c.args.out.now)
    (held x) old left) (sym (h ∙ ap (λ x. x.now) f.writer)) first in
    last _ (search rules)

pub returns-clause-shown : goal.returns-clause-shown
returns-clause-shown g c limit e =
    let held = g.O.Write.contents in
    let p = c.args.search.task.instance.now in
    let b = c.in-Some.solution in
    let found : CutsFound = record { best = Some b; is_proved = true } in
    let old = c.args.budget.now in
    let left = c.count_answer.new.self in
    let u = g.K.SearchWatch.seen c.args.watch.now in
    let v = g.K.SearchWatch.seen c.tell.new.watch in
    let at = subst (EndsAt p limit) c.in-Some.is e in
    let n = c.new-told.ensures in
    let i = c.tell.new.progress in
    let t = c.tell.ensures.follows c.new-told.result (refl, tells_none _ _ _ _ _ n.none) in
    let f = c.finish-writer.ensures in
    let telling = on_ok_at c.tell.result c.if-has_failed.ensures.value c.tell.ensures.ok in
    let s =
    search_shown p limit true b.cost c.limits.ensures _ _ old left _ _ _
    n.none.0 n.none.1 t.1 (Ok found) false u v
    (told_one p limit b at _ _ old left c.count_answer.ensures telling)
    (one_shown p limit b at _ _ old left c.count_answer.ensures u v c.tell.ensures.shown telling) in
    let first =
    subst (λ x. IsShownByCuts p limit found true b.cost (held x) (held i.writer.now) left u v)
    n.holds s in
    let last : (w : g.row.O.Denot) → w ≡ c.finish-writer.result.writer.now
    → IsShownByCuts p limit found true b.cost (held c.args.out.now) (held w) left u v =
    λ w h. subst (λ x. IsShownByCuts p limit found true b.cost (held c.args.out.now)
    (held x) left u v) (sym (h ∙ ap (λ x. x.now) f.writer)) first in
    last _ (search rules)
