-- There are too few or too many bits.
use Rattle.std.proofs.Common.{◌≡◌, sym, ◌∙◌, length}
use Rattle.explain.proofs.Explained.{miscounted}
use Rattle.explain.proofs.explaining.explain_solution.Goals as goal

pub returns-in-Err-clause-fault : goal.returns-in-Err-clause-fault
returns-in-Err-clause-fault g c =
    let bits = c.as_slice-bits.result.now in
    let other : length bits ≡ c.args.instance.now.variables → ⊥ =
    λ e. c.if-bits-vars.false (e ∙ sym c.vars.ensures.vars) in
    rw (sym c.as_slice-bits.ensures.value) (record {
      explanation = _;
      is = miscounted c.args.text.now c.args.instance.now bits c.args.solution.now.cost.cost other;
      part = rw (sym c.vars-2.ensures.vars) c.in-Err.ensures;
    })
