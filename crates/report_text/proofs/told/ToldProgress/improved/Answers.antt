-- A failed write leaves a beginning of the line.
use Rattle.std.proofs.Common.{◌∙◌, ap, sym, subst, arith}
use Rattle.text.specs.Writing.{AppendsPart, spaced}
use Rattle.text.proofs.Laws.{writes-part}
use Rattle.lrat_result.specs.Result.{cost_tokens}
use Rattle.cnf.proofs.Laws.{on_err_at}
use Rattle.report_text.proofs.CostLines.{broke}
use Rattle.report_text.proofs.told.ToldProgress.improved.Goals as goal

pub returns-then-is_err-2-clause-follows : goal.returns-then-is_err-2-clause-follows
returns-then-is_err-2-clause-follows g c = λ first h.
    let f = c.fail-then-is_err-2.ensures in
    let part =
    on_err_at c.write_cost.result c.if-is_err-2.ensures.value
    (writes-part c.write_cost.result _ _ _ c.write_cost.ensures) in (
      ap (λ z. z.ghost_name) f.writer ∙ h.0,
      broke (g.W.Write.contents first.writer.now) _ _ c.args.self.now.costs.items _ c.args.cost _ _
          _ (h.1.all_told (omega arith))
          (subst (λ z. AppendsPart (g.W.Write.contents c.args.self.now.writer.now)
          (g.W.Write.contents z.now) (spaced (cost_tokens c.args.cost))) (sym f.writer) part)
          (ap (λ z. z.items) f.costs ∙ c.reserve.ensures.items) f.failed f.why
          (omega (arith, f.failures)),
    )
