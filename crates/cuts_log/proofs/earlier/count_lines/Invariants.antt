-- `lines` lines stand for the first `number` additions.
use Rattle.std.proofs.Common.{◌≡◌, ◌≤◌, ◌*◌, length}
use Rattle.lrat_log.specs.Steps.{AddsNoEmptyClause}
use Rattle.cuts_log.specs.Starts.{added_at, lines_before}
use Rattle.cuts_log.proofs.earlier.count_lines.Given as goal

abbrev pub invariant-loop-number : goal.invariant-loop-number
invariant-loop-number l = record {
  count : l.lines ≡ length (lines_before (added_at l.base l.machine.state) l.number);
  unrefuted : AddsNoEmptyClause (lines_before (added_at l.base l.machine.state) l.number);
  few : l.lines ≤ 2 * l.number;
}
