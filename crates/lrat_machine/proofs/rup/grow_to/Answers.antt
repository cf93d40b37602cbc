use Rattle.std.proofs.Common.{arith}
use Rattle.lrat_machine.proofs.Negations.{within_more}
use Rattle.lrat_machine.proofs.rup.grow_to.Goals as goal

pub loop-lit-preserved : goal.loop-lit-preserved
loop-lit-preserved c = record {
  within =
      within_more c.args.lits.now c.loop-lit.lit-index c.lit-item.result c.loop-lit-test.true
      c.lit-item.is c.loop-lit.assumed.variables c.grow.new.self.variables
      (omega (arith, c.in_ok-grow.ensures.more)) c.loop-lit.invariant.within
      (omega (arith, c.in_ok-grow.ensures.ok, c.variable.ensures.variable));
  more = omega (arith, c.in_ok-grow.ensures.more);
}
