-- The lines so far are the first ones of the result.
use Rattle.std.proofs.Common.{◌≡◌, ◌++◌, length, map, take}
use Rattle.lrat_log.specs.Flat.{lits_on, hints_on}
use Rattle.lrat_log.specs.Rebase.{weaker_list, weaker_line, moved_line}
use Rattle.lrat_log.proofs.rebase.rebase.Given as goal

abbrev pub invariant-loop-entry : goal.invariant-loop-entry
invariant-loop-entry l = l.new ≡ take l.entry-index (map weaker_line (weaker_list l.weaker))

abbrev pub invariant-loop-line : goal.invariant-loop-line
invariant-loop-line l = record {
  lines : l.new ≡ map weaker_line (weaker_list l.weaker) ++ take l.line
      (map (moved_line l.fixed (length l.weaker)) l.log);
  lits : l.ends.lits ≡ lits_on l.log l.line;
  hints : l.ends.hints ≡ hints_on l.log l.line;
}
