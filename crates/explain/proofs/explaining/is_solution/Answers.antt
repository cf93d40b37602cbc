-- The bits are judged as an assignment that they extend to.
use Rattle.std.proofs.Common.{sym, ◌∙◌}
use Rattle.cnf.specs.Bits.{assignment_of}
use Rattle.cnf.proofs.Laws.{extends_own}
use Rattle.explain.proofs.explaining.is_solution.Goals as goal

pub returns-then-cost : goal.returns-then-cost
returns-then-cost c =
    let t = assignment_of c.args.bits.now in
    let own = extends_own c.args.bits.now in
    let both = c.feasible.ensures t own in (
      λ h. record {
        count = c.requires;
        feasible = both.0 h;
        exact = sym (c.cost.ensures t own) ∙ c.if-cost.true;
      },
      λ s. both.1 s.feasible,
    )
