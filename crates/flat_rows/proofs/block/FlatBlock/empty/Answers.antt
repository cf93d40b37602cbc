use Rattle.std.proofs.Common.{length, ap, arith}
use Rattle.flat_rows.proofs.block.FlatBlock.empty.Goals as goal

pub invariant_of-result : goal.invariant_of-result
invariant_of-result g c =
    let p = c.none.ensures in let r = c.none-2.ensures in
    record {
      at = p.1;
      long = ap length p.0;
      small = omega arith;
      full = λ k lt. absurd (omega arith);
      deed_at = r.1;
      deed_len = r.0;
      deed_heap = r.2;
    }
