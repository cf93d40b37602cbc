-- What was found is what is written.
use Rattle.std.proofs.Common.{◌≡◌, arith, length, subst, sym, ◌∙◌}
use Rattle.cnf.specs.Bits.{assignment_of}
use Rattle.cnf.proofs.Laws.{extends_own}
use Rattle.explain.proofs.Explained.{listed}
use Rattle.explain.proofs.explaining.explain_bits.Goals as goal

pub write_listing-requires : goal.write_listing-requires
write_listing-requires g c =
    let own = extends_own c.as_slice-bits.result.now in
    let cost = c.cost.ensures (assignment_of c.as_slice-bits.result.now) own in
    rw (c.in-Ok.ensures.sum ∙ sym cost) (omega arith)

pub returns-in-Ok-write_listing-clause-ok : goal.returns-in-Ok-write_listing-clause-ok
returns-in-Ok-write_listing-clause-ok g c =
    let bits = c.as_slice-bits.result.now in
    let own = extends_own bits in
    let each = subst (λ b. length b ≡ c.args.instance.now.variables)
    (sym c.as_slice-bits.ensures.value) c.requires in
    rw (sym c.as_slice-bits.ensures.value) (record {
      explanation = _;
      is = listed c.args.text.now c.args.instance.now bits c.args.solution.now.cost.cost
          c.in-Ok.findings c.cost.result c.soft.result.now each c.in-Ok.ensures
          (c.cost.ensures (assignment_of bits) own) c.soft.ensures;
      appended = c.in-Ok-write_listing.ensures;
      right = c.is_solution-is_right.ensures;
    })

pub returns-clause-fault : goal.returns-clause-fault
returns-clause-fault g c =
    let bits = c.as_slice-bits.result.now in
    let own = extends_own bits in
    let each = subst (λ b. length b ≡ c.args.instance.now.variables)
    (sym c.as_slice-bits.ensures.value) c.requires in
    rw (sym c.as_slice-bits.ensures.value) (record {
      explanation = _;
      is = listed c.args.text.now c.args.instance.now bits c.args.solution.now.cost.cost
          c.in-Ok.findings c.cost.result c.soft.result.now each c.in-Ok.ensures
          (c.cost.ensures (assignment_of bits) own) c.soft.ensures;
      part = c.in-Err.ensures;
    })
