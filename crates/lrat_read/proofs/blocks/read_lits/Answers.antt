use Rattle.std.proofs.Common.{arith, ◌∙◌, ap, [], ◌∷◌, ◌++◌}
use Rattle.cnf.specs.Literal.{Literal}
use Rattle.lrat_read.proofs.Prefixes.{lits_small, lits_large}
use Rattle.lrat_read.proofs.blocks.read_lits.Goals as goal

pub loop-is_dashed-preserved-in_ok-push : goal.loop-is_dashed-preserved-in_ok-push
loop-is_dashed-preserved-in_ok-push c = record {
  within = c.in-Number.ensures.5;
  lits =
      lits_small c.args.line.now c.args.at c.loop-is_dashed.place c.in-Number.end
      c.loop-is_dashed.is_large c.loop-is_dashed.lits.items _ c.in-Number.ensures.0
      c.in-Number.is_dashed c.in-Number.value
      c.loop-is_dashed.invariant.lits c.in-Number.ensures.1 c.in-Number.ensures.2 (omega arith)
      (omega arith) (c.in_ok-push.ensures.items
      ∙ ap (λ (l : Literal). c.loop-is_dashed.lits.items ++ l ∷ []) c.new.ensures);
}

pub loop-is_dashed-preserved : goal.loop-is_dashed-preserved
loop-is_dashed-preserved c = record {
  within = c.in-Number.ensures.5;
  lits =
      lits_large c.args.line.now c.args.at c.loop-is_dashed.place c.in-Number.end
      c.loop-is_dashed.is_large c.loop-is_dashed.lits.items c.in-Number.ensures.0
      c.in-Number.is_dashed c.in-Number.value
      c.loop-is_dashed.invariant.lits c.in-Number.ensures.1 c.in-Number.ensures.2 (omega arith)
      (omega arith);
}
