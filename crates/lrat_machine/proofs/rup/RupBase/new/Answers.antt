use Rattle.std.proofs.Common.{◌≤◌, ◌∙◌, length, ap, sym, subst, arith}
use Rattle.lrat_machine.specs.Steps.{IsBase}
use Rattle.lrat_machine.proofs.Base.{IsBase-start, within_formula}
use Rattle.lrat_machine.proofs.rup.RupBase.new.Goals as goal

pub invariant_of-result : goal.invariant_of-result
invariant_of-result c =
    let f = c.args.formula in
    let n = c.grow.new.self.variables in
    let le : f.variables ≤ n = omega (arith, c.in_ok-grow.ensures.ok, c.vars.ensures.vars) in
    subst (IsBase n c.len-last.result) (sym c.in_ok-new.ensures)
    (IsBase-start n c.len-last.result f.clauses (c.len-last.ensures ∙ ap length c.clauses.ensures)
    (within_formula f n c.vars.ensures.limits le))
