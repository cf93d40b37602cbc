-- What was put is what is written.
use Rattle.std.proofs.Common.{rules, subst}
use Rattle.explain_text.specs.Sheets.{Displays}
use Rattle.explain.specs.Summary.{summary_text}
use Rattle.explain_text.proofs.Laws.{written}
use Rattle.explain.proofs.Counts.{counted}
use Rattle.explain.proofs.summary.write_counts.Given.{Over}
use Rattle.explain.proofs.summary.write_counts.Goals as goal
use Rattle.explain.proofs.summary.write_counts.Goals.{After-put_counts}

put : (g : Over) (c : After-put_counts g)
    → Displays (g.W.Write.contents c.args.writer.now) c.new-sheet.result
    (summary_text c.args.instance.now)
    (g.W.Write.contents c.put_counts.new.writer) c.put_counts.new.sheet
put g c =
    subst
    (λ z. Displays (g.W.Write.contents c.args.writer.now) c.new-sheet.result z
    (g.W.Write.contents c.put_counts.new.writer) c.put_counts.new.sheet)
    (counted c.args.instance.now _ _ _ _ c.vars.ensures.vars (search rules) (search rules)
    c.sum_weights.ensures)
    c.put_counts.ensures

pub returns : goal.returns
returns g c =
    let whole = put g (goal.at.returns g c).After-put_counts in
    written c.finish.result _ c.new-sheet.ensures.empty c.new-sheet.ensures.whole whole
    c.finish.ensures.ok c.finish.ensures.fault
