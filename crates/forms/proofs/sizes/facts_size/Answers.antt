use Rattle.std.proofs.Common.{◌∙◌, sym, arith}
use Rattle.forms.specs.Stamped.{numbered_in}
use Rattle.forms.proofs.FactSizes.{no_fact, size_none, size_more, size_all}
use Rattle.forms.proofs.sizes.facts_size.Goals as goal

pub returns-in_err-total : goal.returns-in_err-total
returns-in_err-total g c p =
    c.from_residual.ensures
    ∙ sym (size_none (g.T.ClauseTable.at c.args.table.now) (numbered_in p c.args.numbered.now)
    c.args.facts.now c.loop-fact.fact-index c.loop-fact.total no_fact c.loop-fact-test.true
    (c.loop-fact.invariant.whole p) (sym (c.in_err-total.ensures p)))

pub loop-fact-preserved : goal.loop-fact-preserved
loop-fact-preserved g c = record {
  whole =
      λ p. size_more (g.T.ClauseTable.at c.args.table.now) (numbered_in p c.args.numbered.now)
      c.args.facts.now c.loop-fact.fact-index c.loop-fact.total c.in_ok-total.field-0 no_fact
      c.loop-fact-test.true (c.loop-fact.invariant.whole p) (sym (c.in_ok-total.ensures p));
  few = omega (arith, c.loop-fact.invariant.few);
}

pub returns : goal.returns
returns g c = λ p.
    size_all (g.T.ClauseTable.at c.args.table.now) (numbered_in p c.args.numbered.now)
    c.args.facts.now c.loop-fact.fact-index c.loop-fact.total c.loop-fact-test.false
    (c.loop-fact.invariant.whole p)
