-- A line more, and where the spans of all lie at the end.
use Rattle.std.proofs.Common.{◌∙◌, ap, arith, sym, subst, take}
use Rattle.lrat_read.specs.Batch.{AreRead}
use Rattle.lrat_read.specs.Plain.{AreSpansWithin, lines_in, line_in}
use Rattle.lrat_read.proofs.BatchLaws.{are_read-next, lines_kept, lines_more, spans_more}
use Rattle.lrat_read.proofs.BatchLaws.{spans_wider}
use Rattle.lrat_read.proofs.batch.read_lines.Goals as goal

pub loop-next-preserved : goal.loop-next-preserved
loop-next-preserved c =
    let old = c.loop-next in
    let used = old.used in
    let inv = old.invariant in
    let next = c.in-Some.next in
    let read = c.in-Some.ensures.read in
    let kept = c.in-Some.ensures.kept in
    let lits = c.next_line.new.lits in
    let hints = c.next_line.new.hints in
    let w = read.within in
    let items = c.in_ok-push.ensures.items in
    let spans = spans_more used.lits used.hints (next.span).lits_end (next.span).hints_end
    old.spans.items next.span (omega (arith, read.lits_start, w.lits_order))
    (omega (arith, read.hints_start, w.hints_order)) inv.spans (record {
      lits_order = w.lits_order;
      lits = omega arith;
      hints_order = w.hints_order;
      hints = omega arith;
      small = w.small;
    }) in
    let lines = lines_more old.lits lits old.hints hints used.lits used.hints old.spans.items
    next.span inv.spans inv.lits inv.hints kept.0.1 kept.1.1 kept.0.0 kept.1.0 in
    let more = are_read-next c.args.text.now old.at next.end
    (lines_in old.lits old.hints old.spans.items) (line_in lits hints next.span)
    inv.within read.end inv.read read.read in
    record {
      within = read.end;
      lits = w.lits;
      hints = w.hints;
      spans = subst (AreSpansWithin (next.span).lits_end (next.span).hints_end) (sym items) spans;
      read =
          subst (λ ls. AreRead (take next.end c.args.text.now) ls)
          (sym lines ∙ ap (λ ss. lines_in lits hints ss) (sym items)) more;
    }

pub returns-clause-read : goal.returns-clause-read
returns-clause-read c =
    let old = c.loop-next in
    let inv = old.invariant in
    let kept = c.in_default.ensures.kept in
    subst (λ ls. AreRead (take old.at c.args.text.now) ls)
    (sym (lines_kept old.lits c.next_line.new.lits old.hints c.next_line.new.hints (old.used).lits
    (old.used).hints old.spans.items inv.spans inv.lits inv.hints kept.0.1 kept.1.1 kept.0.0
    kept.1.0)) inv.read

pub returns-clause-spans : goal.returns-clause-spans
returns-clause-spans c =
    let old = c.loop-next in
    let inv = old.invariant in
    spans_wider (old.used).lits (old.used).hints _ _ old.spans.items
    (omega (arith, inv.lits, old.auto.lits)) (omega (arith, inv.hints, old.auto.hints)) inv.spans
