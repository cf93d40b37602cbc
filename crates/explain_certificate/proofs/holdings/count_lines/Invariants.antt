-- The lines so far, and those that are left, are all lines.
use Rattle.std.proofs.Common.{◌≡◌, ◌+◌, ◌≤◌, length}
use Rattle.lrat_cuts.specs.LastForm.{ended_lines}
use Rattle.explain_certificate.specs.Holdings.{count_of_lines, counted_all, counts_of}
use Rattle.explain_certificate.proofs.holdings.count_lines.Given as goal

abbrev pub invariant-loop-line : goal.invariant-loop-line
invariant-loop-line l = record {
  counts : counted_all l.counts (ended_lines l.left) ≡ counts_of l.proof;
  room : count_of_lines l.counts + length l.left ≤ length l.proof;
}

abbrev pub decreases-loop-line : goal.decreases-loop-line
decreases-loop-line l = length l.left
