use Rattle.std.proofs.Common.{◌≡◌, ◌≤◌, take}
use Rattle.std.specs.Prelude.{sum_by, if◌then◌else◌}
use Rattle.cnf.specs.Literal.{Assignment}
use Rattle.cnf.specs.Clause.{clause_value}
use Rattle.cnf.specs.Bits.{Extends}
use Rattle.cnf.proofs.types.Instance.cost.Given as goal

abbrev pub invariant-loop-soft : goal.invariant-loop-soft
invariant-loop-soft l = record {
  so_far : (t : Assignment) → Extends l.bits t
      → l.cost ≡ sum_by (λ s. if clause_value t s.clause then 0 else s.weight)
      (take l.soft-index l.soft-items);
  bound : l.cost ≤ sum_by (λ s. s.weight) (take l.soft-index l.soft-items);
}
