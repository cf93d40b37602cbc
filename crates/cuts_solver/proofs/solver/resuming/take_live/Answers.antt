use Rattle.cuts_solver.proofs.solver.resuming.take_live.Goals as goal

pub returns-clause-takes : goal.returns-clause-takes
returns-clause-takes c = λ yes ls r. c.in_ok-take_axiom.ensures.takes c.args.input.now ls r
