-- The bound, and then the gap.
use Rattle.std.proofs.Common.{◌≡◌, ◌++◌, refl, subst, sym}
use Rattle.text.specs.Writing.{Writes}
use Rattle.text.proofs.Laws.{writes_next}
use Rattle.report_text.specs.Printing.{gap_text, lower_text}
use Rattle.wmax_explaining.specs.Explaining.{gap_between}
use Rattle.wmax_explaining.proofs.explaining.print_bound.Goals as goal

pub returns-in-AtLeast-Right : goal.returns-in-AtLeast-Right
returns-in-AtLeast-Right g c =
    let v = c.args.verdict.now in
    let cost = c.in-AtLeast-Right.cost in
    let lower = c.in-AtLeast-Right.lower in
    let e : gap_between v c.args.judgement ≡ gap_text cost lower =
    rw (c.in-AtLeast-Right.is-0, c.in-AtLeast-Right.is-1) refl in
    subst
    (λ z. Writes c.print_gap.result (g.W.Write.contents c.args.writer.now) (lower_text v ++ z)
    (g.W.Write.contents c.print_gap.new.writer))
    (sym e)
    (writes_next c.print_gap.result _ _ _ (lower_text v) (gap_text cost lower)
    c.in_ok-print_lower.ensures c.print_gap.ensures)
