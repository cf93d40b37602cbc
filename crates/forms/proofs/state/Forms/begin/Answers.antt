use Rattle.std.proofs.Common.{ap, arith}
use Rattle.linear.specs.Costs.{width_of}
use Rattle.forms.proofs.state.Forms.begin.Goals as goal

pub invariant_of-self : goal.invariant_of-self
invariant_of-self c =
    let old = c.self.invariant in
    let step = c.next_stamp-self-inside.ensures in
    record {
      width = omega (arith, old.width, ap width_of c.restart.ensures.form);
      marks = old.marks;
      variables = old.variables;
      made = old.made;
      terms = old.terms;
      mass = omega (arith, c.restart.ensures.mass);
      within =
          step.within c.self.inside.variables c.self.inside.terms old.within;
      stamped = step.stamped;
    }
