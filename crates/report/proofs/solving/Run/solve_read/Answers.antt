-- The ends of a run, by what was read, searched and written.
use Rattle.std.proofs.Common.{[], ◌∷◌, ◌∙◌, ap, sym, subst}
use Rattle.std.proofs.lemmas.Result.{err_from_is_err_and}
use Rattle.cdcl_order.specs.Watch.{with_seen}
use Rattle.report_text.specs.Best.{IsTrueOf, end_of, said_of}
use Rattle.report.proofs.Ends.{proof_room, ends, answer_leaves, search_leaves}
use Rattle.report.proofs.SeenAs.{seen_as, found_so}
use Rattle.report.proofs.solving.Run.solve_read.Goals as goal

pub returns-in_err-found-clause-fault : goal.returns-in_err-found-clause-fault
returns-in_err-found-clause-fault g c text r =
    let held = g.O.Write.contents in
    let p =
    err_from_is_err_and c.from_residual.result c.from_residual.ensures.1
    in
    rw (p.1, p.2) (search_leaves c.args.profile text c.args.instance.now
    r.0 r.1 c.args.self.now.budget.now c.find_best.new.budget
    (held c.args.self.now.out.now) (held c.find_best.new.out) (g.P.Write.contents c.args.proof.now)
    c.in_err-found.field-0.0 c.in_err-found.ensures.searches)

pub write_answer-requires : goal.write_answer-requires
write_answer-requires g c =
    let held = g.O.Write.contents in
    let f = c.in_ok-found in
    proof_room c.args.profile c.args.instance.now (held c.args.self.now.out.now)
    (held c.find_best.new.out) c.args.self.now.budget.now c.find_best.new.budget f.found
    f.ensures.searches

pub returns-in-Err-clause-fault : goal.returns-in-Err-clause-fault
returns-in-Err-clause-fault g c text r =
    let held = g.O.Write.contents in
    let certified = g.P.Write.contents in
    let f = c.in_ok-found in
    let w = c.write_answer in
    answer_leaves c.args.profile text c.args.instance.now r.0 r.1 c.args.self.now.budget.now
    c.find_best.new.budget (held c.args.self.now.out.now) (held c.find_best.new.out)
    (held w.new.out) (certified c.args.proof.now) (certified w.new.proof) f.found f.ensures.searches
    c.in-Err.fault c.in-Err.ensures.fault

pub returns-clause-ok : goal.returns-clause-ok
returns-clause-ok g c text r =
    let held = g.O.Write.contents in
    let certified = g.P.Write.contents in
    let f = c.in_ok-found in
    let w = c.write_answer in
    ends c.args.profile text c.args.instance.now
    r.0 r.1 c.args.self.now.budget.now c.find_best.new.budget
    (held c.args.self.now.out.now) (held c.find_best.new.out) (held w.new.out)
    (certified c.args.proof.now) (certified w.new.proof) f.found f.ensures.searches
    c.of-3.result c.of-3.ensures c.in_default.ensures.ok

pub ended-requires : goal.ended-requires
ended-requires g c =
    let s = c.in_ok-found.ensures.searches in
    let p = c.args.instance.now in
    subst (IsTrueOf p) (sym c.of-2.ensures)
    (found_so c.args.profile p s.tried c.in_ok-found.found s.found)

pub returns-clause-seen : goal.returns-clause-seen
returns-clause-seen g c text r =
    let held = g.O.Write.contents in
    let certified = g.P.Write.contents in
    let seen = g.K.SearchWatch.seen in
    let f = c.in_ok-found in
    let w = c.write_answer in
    seen_as c.args.profile text c.args.instance.now r.0
    (held c.args.self.now.out.now) (held c.find_best.new.out) (held w.new.out)
    (certified c.args.proof.now) (certified w.new.proof)
    (seen c.args.self.now.watch.now) (seen c.find_best.new.watch) _ f.found f.ensures.shown
    c.in_default.ensures.ok
    (c.ended.ensures.shown
    ∙ ap (λ z. with_seen (end_of c.args.instance.now z ∷ []) (seen c.searched.new.self))
    c.of-2.ensures
    ∙ ap (with_seen (end_of c.args.instance.now (said_of f.found) ∷ []))
    c.searched.ensures.same_seen)
    c.of-3.result c.of-3.ensures
