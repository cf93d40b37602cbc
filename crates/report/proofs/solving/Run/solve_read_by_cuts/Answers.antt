-- The run is one behind no lines.
use Rattle.std.proofs.Common.{[], ap, sym, ◌∙◌}
use Rattle.lrat_cuts.specs.Cuts.{cuts_start}
use Rattle.report.proofs.CutsTexts.{begins_fresh, ends_as, leaves_as, nothing_before}
use Rattle.report.proofs.solving.Run.solve_read_by_cuts.Goals as goal

pub run_by_cuts-requires : goal.run_by_cuts-requires
run_by_cuts-requires g c =
    let n = c.in-Ok.ensures in
    record {
      instance = n.problem;
      first_is = begins_fresh c.args.instance.now _ _ c.limits.ensures n.cost
          c.first_solution-start.ensures.solution;
      open_end = n.works.0;
      works = n.works.1;
    }

pub returns-clause-ok : goal.returns-clause-ok
returns-clause-ok g c text r =
    let n = c.in-Ok.ensures in
    let e = c.run_by_cuts in
    let b = nothing_before c.in-Ok.started.solver.log (n.start ∙ ap cuts_start (sym n.problem)) in
    ends_as g.P.Write.contents e.result.proof e.result.ended [] text
    (g.O.Write.contents c.args.self.now.out.now) (g.O.Write.contents e.new.self.out.now)
    e.new.self.budget.now _ _ n.origin c.args.self.now.budget.now _ _ n.cost
    (e.ensures.ok text r [] b)

pub returns-clause-fault : goal.returns-clause-fault
returns-clause-fault g c text r =
    let n = c.in-Ok.ensures in
    let e = c.run_by_cuts in
    let b = nothing_before c.in-Ok.started.solver.log (n.start ∙ ap cuts_start (sym n.problem)) in
    leaves_as g.P.Write.contents e.result.proof e.result.ended [] text
    (g.O.Write.contents c.args.self.now.out.now) (g.O.Write.contents e.new.self.out.now)
    e.new.self.budget.now _ _ n.origin (e.ensures.fault text r [] b)
