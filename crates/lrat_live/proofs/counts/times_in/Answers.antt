use Rattle.std.proofs.Common.{◌∙◌, ap, sym, arith}
use Rattle.std.proofs.lemmas.List.{take_all}
use Rattle.lrat_live.specs.Counts.{times_in}
use Rattle.lrat_live.proofs.CountLaws.{times_in-passed, times_in-found}
use Rattle.lrat_live.proofs.counts.times_in.Goals as goal

pub loop-own-preserved-then-ne : goal.loop-own-preserved-then-ne
loop-own-preserved-then-ne c = record {
  so_far = c.loop-own.invariant.so_far
      ∙ sym (times_in-passed c.args.lit c.own-item.result c.args.clause.now c.loop-own.own-index
      c.loop-own-test.true c.own-item.is (sym c.if-ne.ensures));
  bound = omega (arith, c.loop-own.invariant.bound);
}

pub loop-own-preserved : goal.loop-own-preserved
loop-own-preserved c = record {
  so_far =
      (let found = times_in-found c.args.lit c.own-item.result c.args.clause.now
      c.loop-own.own-index
      c.loop-own-test.true c.own-item.is (sym c.if-ne.ensures) in
      omega (arith, found, c.loop-own.invariant.so_far));
  bound = omega (arith, c.loop-own.invariant.bound);
}

pub returns : goal.returns
returns c = c.loop-own.invariant.so_far
    ∙ ap (times_in c.args.lit)
    (take_all c.loop-own.own-index c.args.clause.now c.loop-own-test.false)
