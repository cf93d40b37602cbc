use Rattle.std.proofs.Common.{length, ◌-◌, ◌≤◌}
use Rattle.lrat_read.proofs.Prefixes.{LitsSoFar}
use Rattle.lrat_read.proofs.blocks.read_lits.Given as goal

abbrev pub invariant-loop-is_dashed : goal.invariant-loop-is_dashed
invariant-loop-is_dashed l = record {
  within : l.place ≤ length l.line;
  lits : LitsSoFar l.line l.at l.place l.is_large l.lits.items;
}

abbrev pub decreases-loop-is_dashed : goal.decreases-loop-is_dashed
decreases-loop-is_dashed l = length l.line - l.place
