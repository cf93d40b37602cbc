-- Whoever puts the lines that are left has put all, and what is paid grows to the sum.
use Rattle.std.proofs.Common.{◌≡◌, ◌+◌, drop, sum_by}
use Rattle.explain.specs.declared.falsified.GivenUp.{GivenUp}
use Rattle.explain.specs.Explanation.{paid_lines}
use Rattle.explain_text.proofs.Laws.{Leads}
use Rattle.explain.proofs.putting.put_given_up.Given as goal

abbrev pub invariant-loop-each : goal.invariant-loop-each
invariant-loop-each g l = record {
  leads : Leads (g.W.Write.contents l.initial.writer) l.initial.sheet
      (paid_lines l.soft 0 l.given_up)
      (paid_lines l.soft l.paid (drop l.each-index l.given_up)) (g.W.Write.contents l.writer)
      l.sheet;
  paid : l.paid + sum_by (λ (g : GivenUp). g.weight) (drop l.each-index l.given_up)
      ≡ sum_by (λ (g : GivenUp). g.weight) l.given_up;
}
