use Rattle.std.proofs.Common.{◌≡◌, length}
use Rattle.lrat_live.specs.Table.{entry_spans, clauses_in}
use Rattle.lrat_live.proofs.Clauses.{IsCompacting}
use Rattle.lrat_live.proofs.reclaim.compact.Given as goal

abbrev pub invariant-loop-i : goal.invariant-loop-i
invariant-loop-i l = record {
  moving : IsCompacting l.lits.items (entry_spans l.entries.items) l.kept l.end l.i
      (clauses_in l.fn.lits.items (entry_spans l.fn.entries.items));
  entries : length l.entries.items ≡ length l.fn.entries.items;
  literals : length l.lits.items ≡ length l.fn.lits.items;
}
