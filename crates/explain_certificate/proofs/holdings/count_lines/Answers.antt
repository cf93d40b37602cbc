-- A line more, and the end.
use Rattle.std.proofs.Common.{◌≡◌, ◌∙◌, ap, sym, arith, Some, None}
use Rattle.text.specs.Text.{tokens_of}
use Rattle.text.proofs.Laws.{line_lengths}
use Rattle.lrat_cuts.specs.LastForm.{ended_lines}
use Rattle.explain_certificate.specs.Holdings.{counted_all, counted_if, kind_of}
use Rattle.explain_certificate.proofs.CountedLines.{counts-first, counts-none, one_more}
use Rattle.explain_certificate.proofs.holdings.count_lines.Goals as goal

pub loop-line-preserved-in-Some-kind_of : goal.loop-line-preserved-in-Some-kind_of
loop-line-preserved-in-Some-kind_of c =
    let l = c.loop-line in
    let more = ended_lines c.in-Some.after.now in
    let next = counts-first l.counts l.left.now c.in-Some.line.now c.in-Some.after.now
    c.in-Some.ensures in
    let kind : Some c.in-Some-kind_of.kind ≡ kind_of (tokens_of c.without_return.result.now) =
    sym c.in-Some-kind_of.is ∙ c.kind_of.ensures in
    let n = line_lengths l.left.now c.in-Some.line.now c.in-Some.after.now c.in-Some.ensures in
    let one = one_more c.in-Some-kind_of.kind l.counts in
    record {
      counts =
          ap (λ s. counted_all s more) c.add.ensures
          ∙ ap (λ k. counted_all (counted_if k l.counts) more) kind
          ∙ ap (λ b. counted_all (counted_if (kind_of (tokens_of b)) l.counts) more)
          c.without_return.ensures
          ∙ sym next ∙ l.invariant.counts;
      room = rw (c.add.ensures) (omega (arith, one, n, l.invariant.room));
    }

pub loop-line-preserved : goal.loop-line-preserved
loop-line-preserved c =
    let l = c.loop-line in
    let more = ended_lines c.in-Some.after.now in
    let next = counts-first l.counts l.left.now c.in-Some.line.now c.in-Some.after.now
    c.in-Some.ensures in
    let kind : None ≡ kind_of (tokens_of c.without_return.result.now) =
    sym c.in_default-kind_of.is ∙ c.kind_of.ensures in
    let n = line_lengths l.left.now c.in-Some.line.now c.in-Some.after.now c.in-Some.ensures in
    record {
      counts =
          ap (λ k. counted_all (counted_if k l.counts) more) kind
          ∙ ap (λ b. counted_all (counted_if (kind_of (tokens_of b)) l.counts) more)
          c.without_return.ensures
          ∙ sym next ∙ l.invariant.counts;
      room = omega (arith, n, l.invariant.room);
    }

pub returns : goal.returns
returns c =
    let l = c.loop-line in
    sym (counts-none l.counts l.left.now c.in_default.ensures) ∙ l.invariant.counts
