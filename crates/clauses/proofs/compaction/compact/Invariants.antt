use Rattle.std.proofs.Common.{◌≡◌, length}
use Rattle.clauses.specs.Heads.{clauses_in}
use Rattle.cnf.proofs.Laws.{IsCompacting}
use Rattle.clauses.proofs.Flat.{heads}
use Rattle.clauses.proofs.compaction.compact.Given as goal

abbrev pub invariant-loop-i : goal.invariant-loop-i
invariant-loop-i l = record {
  moving : IsCompacting heads l.literals.items l.heads l.kept l.end l.i
      (clauses_in l.fn.literals.items l.fn.heads);
  heads : length l.heads ≡ length l.fn.heads;
  literals : length l.literals.items ≡ length l.fn.literals.items;
}
