use Rattle.std.proofs.Common.{arith}
use Rattle.cuts_log.proofs.Keeping.{kept_lower}
use Rattle.cuts_log.proofs.log.CutsLog.set_cost.Goals as goal

pub invariant_of-self : goal.invariant_of-self
invariant_of-self g c = kept_lower _ c.args.cost (omega arith) c.self.invariant
