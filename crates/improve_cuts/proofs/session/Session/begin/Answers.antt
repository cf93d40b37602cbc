-- The first solution was kept, or there is none.
use Rattle.std.proofs.Common.{◌<◌, subst, sym}
use Rattle.improve_found.proofs.Laws.{cost_of_solution, cost_small}
use Rattle.improve_cuts.specs.ByCuts.{BeginsWith}
use Rattle.improve_cuts.specs.Sessions.{cost_of}
use Rattle.improve_cuts.proofs.Ends.{begins}
use Rattle.improve_cuts.proofs.session.Session.begin.Goals as goal

pub keep-requires-clause-cheaper : goal.keep-requires-clause-cheaper
keep-requires-clause-cheaper g c =
    let p = c.args.self.now.instance.now in
    let b = c.in-Some.solution in
    let h = subst (BeginsWith p c.args.self.now.solver.now.log.cost) c.in-Some.is
    c.requires.first in
    let small = cost_small p b.cost c.limits.ensures (cost_of_solution p b.bits.items b.cost h.0) in
    subst (λ best. b.cost < cost_of best) (sym c.requires.works.1) small

pub returns-in_default-clause-come : goal.returns-in_default-clause-come
returns-in_default-clause-come g c =
    begins _ _ c.requires.works.1 c.requires.works.0
    (subst (BeginsWith c.args.self.now.instance.now c.args.self.now.solver.now.log.cost)
    c.in_default.is c.requires.first)
