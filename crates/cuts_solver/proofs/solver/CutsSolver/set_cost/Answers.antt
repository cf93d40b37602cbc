use Rattle.cuts_solver.proofs.Working.{cheaper_solver}
use Rattle.cuts_solver.proofs.solver.CutsSolver.set_cost.Goals as goal

pub invariant_of-self : goal.invariant_of-self
invariant_of-self g c =
    cheaper_solver _ c.set_cost.new.self c.args.cost c.self.invariant c.set_cost.ensures
