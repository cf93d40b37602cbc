use Rattle.std.proofs.Common.{◌≡◌, ◌*◌, length, refl, arith, rules}
use Rattle.lrat_machine.proofs.AssumedLaws.{AreValues-grow}
use Rattle.lrat_machine.proofs.assumed.AssumedLits.grow.Goals as goal

pub invariant_of-self-then-self-variable : goal.invariant_of-self-then-self-variable
invariant_of-self-then-self-variable c =
    let s = c.self.inside in
    let long : length c.resize.new.self.items ≡ 2 * c.args.variable = search rules in
    let kept = c.in_ok-resize.ensures.by_index in
    AreValues-grow s.values.items c.resize.new.self.items s.variables c.args.variable s.trail.items
    c.self.invariant (omega arith) c.requires long
    (λ k d h i. kept.0 k d h (omega (arith, s.values.ok.0)))
    (λ k d h i. kept.1 k d refl (omega (arith, s.values.ok.0)) i)
