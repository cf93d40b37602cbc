use Rattle.std.proofs.Common.{◌≡◌}
use Rattle.cdcl_order.proofs.policy.Policy.learn_from.Given as goal

abbrev pub invariant-loop-reason : goal.invariant-loop-reason
invariant-loop-reason l = l.self ≡ l.initial.self
