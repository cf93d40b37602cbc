use Rattle.std.proofs.Common.{length}
use Rattle.totalizer.proofs.stages.+count_clauses.Given as goal

abbrev pub decreases-count_clauses : goal.decreases-count_clauses
decreases-count_clauses l = length l.inputs.now
