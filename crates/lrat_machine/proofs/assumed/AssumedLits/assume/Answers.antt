use Rattle.std.proofs.Common.{◌≡◌, ◌<◌, ◌≤◌, false, ap, ◌∙◌, arith}
use Rattle.cnf.specs.Clause.{contains_literal}
use Rattle.lrat_machine.proofs.AssumedLaws.{AreValues-assume}
use Rattle.lrat_machine.proofs.assumed.AssumedLits.assume.Goals as goal

pub invariant_of-self-2 : goal.invariant_of-self-2
invariant_of-self-2 c =
    let s = c.self.inside in
    let first : 0 < c.args.lit.variable = omega (arith, c.index.ensures.within) in
    let literals : s.trail.items ≡ c.args.self.now.literals = ap (λ x. x.literals) c.self.view_is in
    let variables : s.variables ≡ c.args.self.now.variables =
    ap (λ x. x.variables) c.self.view_is in
    let within : c.args.lit.variable ≤ s.variables = omega (arith, c.requires.within) in
    let fresh : contains_literal c.args.lit s.trail.items ≡ false =
    ap (contains_literal c.args.lit) literals ∙ c.requires.not_true in
    rw (c.in_ok-push.ensures.items, c.index.ensures.index)
    (AreValues-assume s.values.items s.variables s.trail.items c.args.lit c.self.invariant first
    within fresh)
