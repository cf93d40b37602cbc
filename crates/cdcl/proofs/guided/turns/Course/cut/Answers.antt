use Rattle.std.proofs.Common.{subst, sym}
use Rattle.propagate.specs.Trail.{literals_of}
use Rattle.analyze.specs.Analyzer.{IsFixpoint}
use Rattle.cdcl_search.specs.declared.search.Search.{Search}
use Rattle.cdcl.specs.declared.guided.GuidedEnd.TheVariants.{Refuted}
use Rattle.cdcl.proofs.Guiding.{guided_breaks, guided_ends, guided_goes}
use Rattle.cdcl.proofs.guided.turns.Course.cut.Goals as goal

pub branch-self-requires-clause-fixpoint : goal.branch-self-requires-clause-fixpoint
branch-self-requires-clause-fixpoint g c =
    let refused = rw c.in-Refused.is at c.in_ok-taking.ensures.taking.takes in
    subst (λ (s : Search). IsFixpoint s.store.slots (literals_of s.engine.trail)) (sym refused.0)
    c.requires.fixpoint

pub returns-in_err-taking-clause-turns : goal.returns-in_err-taking-clause-turns
returns-in_err-taking-clause-turns g c =
    let o = c.args.self.now in
    let n = c.take_cut.new.self in
    guided_breaks c.from_residual.result o.search.now n.search.now o.input.now
    (g.S.Sink.lines o.sink.now) (g.S.Sink.lines n.sink.now) o.budget.now
    n.budget.now c.from_residual.ensures.0 c.in_err-taking.ensures.taking.err
    c.take_cut.ensures.taking.pays

pub returns-in-Taken-clause-turns : goal.returns-in-Taken-clause-turns
returns-in-Taken-clause-turns g c =
    let o = c.args.self.now in
    let n = c.take_cut.new.self in
    guided_goes o.search.now n.search.now o.input.now
    (g.S.Sink.lines o.sink.now) (g.S.Sink.lines n.sink.now) o.budget.now
    n.budget.now (rw c.in-Taken.is at c.in_ok-taking.ensures.taking.takes)
    c.take_cut.ensures.taking.pays

pub returns-in-Ended-clause-turns : goal.returns-in-Ended-clause-turns
returns-in-Ended-clause-turns g c =
    let o = c.args.self.now in
    let n = c.take_cut.new.self in
    guided_ends o.search.now n.search.now o.input.now
    (g.S.Sink.lines o.sink.now) (g.S.Sink.lines n.sink.now) o.budget.now
    n.budget.now Refuted (rw c.in-Ended.is at c.in_ok-taking.ensures.taking.takes)
    c.take_cut.ensures.taking.pays
