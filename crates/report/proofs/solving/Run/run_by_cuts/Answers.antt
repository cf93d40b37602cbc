-- The ends of a search by forms and cuts, by what was searched and written.
use Rattle.std.proofs.Common.{None, sym, ◌∙◌, ap, subst, [], ◌∷◌}
use Rattle.std.proofs.lemmas.Result.{IfOk-weaker}
use Rattle.cdcl_order.specs.Watch.{with_seen}
use Rattle.report_text.specs.Best.{IsTrueOf, end_of, said_by}
use Rattle.report.proofs.CutsEnds.{found_true, ends_with, leaves_with, search_leaves, seen_with}
use Rattle.report.proofs.CutsTexts.{begun_text, whole_text}
use Rattle.report.proofs.solving.Run.run_by_cuts.Goals as goal

pub end_by_cuts-requires : goal.end_by_cuts-requires
end_by_cuts-requires g c =
    let held = g.O.Write.contents in
    let p = c.args.search.task.instance.now in
    let s = c.find_by_cuts in
    let f = c.in-Ok in
    subst (IsTrueOf p) (sym c.of_cuts-finding.ensures)
    (found_true None p c.limits.ensures tt tt c.args.solver.log.cost s.new.solver.refuted
    s.new.solver.log.cost c.args.self.now.budget.now s.new.budget
    (held c.args.self.now.out.now) (held s.new.out) f.found f.ensures.searches)

pub returns-in-Ok-clause-ok : goal.returns-in-Ok-clause-ok
returns-in-Ok-clause-ok g c text r front b =
    let held = g.O.Write.contents in
    let certified = g.P.Write.contents in
    let p = c.args.search.task.instance.now in
    let s = c.find_by_cuts in
    let f = c.in-Ok in
    let w = c.finish-written in
    let e = c.end_by_cuts in
    ends_with text p c.limits.ensures r.0 r.1 front c.args.solver.log.cost s.new.solver.refuted
    s.new.solver.log.cost _ c.args.self.now.budget.now s.new.budget (held c.args.self.now.out.now)
    (held s.new.out) f.found f.ensures.searches w.result.is_whole (certified w.result.writer)
    (λ z. whole_text p c.args.solver s.new.solver f.ensures.origin c.requires.instance front b _
    (w.ensures.whole z))
    (begun_text p c.args.solver s.new.solver f.ensures.origin c.requires.instance front b text r.1 _
    w.ensures.part)
    certified e.result.proof (held e.new.out) _ c.of_cuts-finding.ensures e.result.ended
    e.ensures.status e.ensures.ok

pub returns-in-Ok-clause-fault : goal.returns-in-Ok-clause-fault
returns-in-Ok-clause-fault g c text r front b =
    let held = g.O.Write.contents in
    let certified = g.P.Write.contents in
    let p = c.args.search.task.instance.now in
    let s = c.find_by_cuts in
    let f = c.in-Ok in
    let w = c.finish-written in
    let e = c.end_by_cuts in
    leaves_with text p c.limits.ensures r.0 r.1 front c.args.solver.log.cost s.new.solver.refuted
    s.new.solver.log.cost _ c.args.self.now.budget.now s.new.budget (held c.args.self.now.out.now)
    (held s.new.out) f.found f.ensures.searches w.result.is_whole (certified w.result.writer)
    (λ z. whole_text p c.args.solver s.new.solver f.ensures.origin c.requires.instance front b _
    (w.ensures.whole z))
    (begun_text p c.args.solver s.new.solver f.ensures.origin c.requires.instance front b text r.1 _
    w.ensures.part)
    certified e.result.proof (held e.new.out) _ c.of_cuts-finding.ensures e.result.ended
    e.ensures.fault

pub returns-in-Ok-clause-seen : goal.returns-in-Ok-clause-seen
returns-in-Ok-clause-seen g c text r =
    let held = g.O.Write.contents in
    let certified = g.P.Write.contents in
    let seen = g.K.SearchWatch.seen in
    let p = c.args.search.task.instance.now in
    let s = c.find_by_cuts in
    let f = c.in-Ok in
    let w = c.finish-written in
    let e = c.end_by_cuts in
    seen_with text p c.limits.ensures r.0 r.1 c.args.solver.log.cost f.found s.new.solver.refuted
    s.new.solver.log.cost s.new.budget
    (held c.args.self.now.out.now) (held s.new.out) (held e.new.out)
    (seen c.args.self.now.watch.now) (seen s.new.watch) (seen e.new.watch) f.ensures.shown
    certified e.result.proof w.result.is_whole (certified w.result.writer)
    e.ensures.writer _ c.of_cuts-finding.ensures e.result.ended e.ensures.status e.ensures.ok
    (IfOk-weaker e.result.ended _ _
    (λ status h. h ∙ ap (with_seen (end_of p (said_by c.of_cuts-finding.result) ∷ []))
    c.searched.ensures.same_seen) e.ensures.seen)

pub returns-in-Err-clause-fault : goal.returns-in-Err-clause-fault
returns-in-Err-clause-fault g c text r front b =
    let held = g.O.Write.contents in
    let certified = g.P.Write.contents in
    let p = c.args.search.task.instance.now in
    let s = c.find_by_cuts in
    let f = c.in-Err in
    search_leaves text p c.limits.ensures r.0 r.1 front c.args.solver.log.cost
    s.new.solver.refuted s.new.solver.log.cost _ c.args.self.now.budget.now s.new.budget
    (held c.args.self.now.out.now) (held s.new.out) (certified c.finish-writer.result.writer)
    f.fault f.ensures.searches
    (begun_text p c.args.solver s.new.solver f.ensures.origin c.requires.instance front b text r.1 _
    c.finish-writer.ensures.part)
