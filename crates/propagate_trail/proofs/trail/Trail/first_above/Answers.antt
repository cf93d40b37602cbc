use Rattle.std.proofs.Common.{◌≡◌, ◌≤◌, take, subst, arith}
use Rattle.propagate_trail.specs.Trail.{depth_of}
use Rattle.propagate_trail.proofs.Undoing.{kept_at}
use Rattle.propagate_trail.proofs.trail.Trail.first_above.Goals as goal

pub returns-clause-kept : goal.returns-clause-kept
returns-clause-kept c =
    let i = c.loop-first.invariant in
    let T = c.args.self.now.assigned in
    let e : c.loop-first.first ≡ c.loop-first.end = omega (arith, i.0) in
    kept_at c.args.level c.loop-first.end T
    (subst (λ k. depth_of (take k T) ≤ c.args.level) e i.2) i.3
