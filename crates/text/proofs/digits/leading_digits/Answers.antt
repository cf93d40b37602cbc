-- One more digit.
use Rattle.std.proofs.Common.{arith, below_more}
use Rattle.std.proofs.lemmas.Grind.{common_steps}
use Rattle.text.proofs.CappedNumbers.{capped-more}
use Rattle.text.proofs.digits.leading_digits.Goals as goal

pub loop-count-preserved : goal.loop-count-preserved
loop-count-preserved c =
    record {
      digits = below_more _ _ c.loop-count.invariant.digits (grind (arith, common_steps));
      value = capped-more c.args.bytes.now c.loop-count.count c.loop-count.value
          c.with_digit-value.result (omega arith) c.loop-count.invariant.value
          c.with_digit-value.ensures;
      within = omega arith;
    }
