-- The ends of a run whose certificate has ended before it, by what was told and written.
use Rattle.std.proofs.Common.{None, true, sym, ◌∙◌, ap, subst, [], ◌∷◌}
use Rattle.std.proofs.lemmas.Result.{IfOk-weaker}
use Rattle.cdcl_order.specs.Watch.{with_seen}
use Rattle.report_text.specs.Best.{IsTrueOf, end_of, said_by}
use Rattle.report.specs.ByCuts.{held_by}
use Rattle.report.proofs.CutsEnds.{found_true, ends_with, leaves_with, search_leaves, seen_with}
use Rattle.report.proofs.CutsTexts.{nothing_behind, nothing_grown}
use Rattle.report.proofs.solving.Run.run_at_once.Goals as goal

pub end_by_cuts-requires : goal.end_by_cuts-requires
end_by_cuts-requires g c =
    let held = g.O.Write.contents in
    let p = c.args.search.task.instance.now in
    let s = c.find_at_once in
    let f = c.in-Ok in
    subst (IsTrueOf p) (sym c.of_cuts-finding.ensures)
    (found_true None p c.limits.ensures tt tt c.requires.0 true (held_by c.requires.0 f.found.best)
    c.args.self.now.budget.now s.new.budget (held c.args.self.now.out.now) (held s.new.out) f.found
    (f.ensures.searches c.requires.0 c.requires.1))

pub returns-in-Ok-clause-ok : goal.returns-in-Ok-clause-ok
returns-in-Ok-clause-ok g c limit at text r front up =
    let held = g.O.Write.contents in
    let certified = g.P.Write.contents in
    let p = c.args.search.task.instance.now in
    let s = c.find_at_once in
    let f = c.in-Ok in
    let e = c.end_by_cuts in
    ends_with text p c.limits.ensures r.0 r.1 front limit true (held_by limit f.found.best)
    (certified c.args.proof) c.args.self.now.budget.now s.new.budget (held c.args.self.now.out.now)
    (held s.new.out) f.found (f.ensures.searches limit at) true (certified c.args.proof)
    (λ z. nothing_behind p limit (held_by limit f.found.best) front (certified c.args.proof) up
    (f.ensures.below limit at)) (nothing_grown front text (certified c.args.proof))
    certified e.result.proof (held e.new.out) _ c.of_cuts-finding.ensures e.result.ended
    e.ensures.status e.ensures.ok

pub returns-in-Ok-clause-fault : goal.returns-in-Ok-clause-fault
returns-in-Ok-clause-fault g c limit at text r front up =
    let held = g.O.Write.contents in
    let certified = g.P.Write.contents in
    let p = c.args.search.task.instance.now in
    let s = c.find_at_once in
    let f = c.in-Ok in
    let e = c.end_by_cuts in
    leaves_with text p c.limits.ensures r.0 r.1 front limit true (held_by limit f.found.best)
    (certified c.args.proof) c.args.self.now.budget.now s.new.budget (held c.args.self.now.out.now)
    (held s.new.out) f.found (f.ensures.searches limit at) true (certified c.args.proof)
    (λ z. nothing_behind p limit (held_by limit f.found.best) front (certified c.args.proof) up
    (f.ensures.below limit at)) (nothing_grown front text (certified c.args.proof))
    certified e.result.proof (held e.new.out) _ c.of_cuts-finding.ensures e.result.ended
    e.ensures.fault

pub returns-in-Ok-clause-seen : goal.returns-in-Ok-clause-seen
returns-in-Ok-clause-seen g c limit at text r =
    let held = g.O.Write.contents in
    let certified = g.P.Write.contents in
    let seen = g.K.SearchWatch.seen in
    let p = c.args.search.task.instance.now in
    let s = c.find_at_once in
    let f = c.in-Ok in
    let e = c.end_by_cuts in
    seen_with text p c.limits.ensures r.0 r.1 limit f.found true (held_by limit f.found.best)
    s.new.budget
    (held c.args.self.now.out.now) (held s.new.out) (held e.new.out)
    (seen c.args.self.now.watch.now) (seen s.new.watch) (seen e.new.watch)
    (f.ensures.shown limit at)
    certified e.result.proof true (certified c.args.proof)
    e.ensures.writer _ c.of_cuts-finding.ensures e.result.ended e.ensures.status e.ensures.ok
    (IfOk-weaker e.result.ended _ _
    (λ status h. h ∙ ap (with_seen (end_of p (said_by c.of_cuts-finding.result) ∷ []))
    c.searched.ensures.same_seen) e.ensures.seen)

pub returns-in-Err-clause-fault : goal.returns-in-Err-clause-fault
returns-in-Err-clause-fault g c limit at text r front up =
    let held = g.O.Write.contents in
    let certified = g.P.Write.contents in
    let p = c.args.search.task.instance.now in
    let s = c.find_at_once in
    let f = c.in-Err in
    search_leaves text p c.limits.ensures r.0 r.1 front limit true limit
    (certified c.args.proof) c.args.self.now.budget.now s.new.budget (held c.args.self.now.out.now)
    (held s.new.out) (certified c.args.proof) f.fault (f.ensures.searches limit at)
    (nothing_grown front text (certified c.args.proof))

pub returns-in-Ok-clause-same_limit : goal.returns-in-Ok-clause-same_limit
returns-in-Ok-clause-same_limit g c =
    (c.in-Ok.ensures.searches c.requires.0 c.requires.1).same_limit

pub returns-in-Err-clause-same_limit : goal.returns-in-Err-clause-same_limit
returns-in-Err-clause-same_limit g c =
    (c.in-Err.ensures.searches c.requires.0 c.requires.1).same_limit
