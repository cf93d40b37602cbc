use Rattle.std.proofs.Common.{◌≡◌, ◌≤◌, ◌-◌, length, slice_range, true}
use Rattle.lrat_read.proofs.Ends.{is_solid}
use Rattle.lrat_read.proofs.words.token_end.Given as goal

abbrev pub invariant-loop-end : goal.invariant-loop-end
invariant-loop-end l = record {
  from : l.start ≤ l.end;
  within : l.end ≤ length l.line;
  solid : is_solid (slice_range l.line l.start l.end) ≡ true;
}

abbrev pub decreases-loop-end : goal.decreases-loop-end
decreases-loop-end l = length l.line - l.end
