use Rattle.std.proofs.Common.{length}
use Rattle.analyze.proofs.minimise.Minimiser.find_redundant.Given as goal

abbrev pub decreases-loop-before : goal.decreases-loop-before
decreases-loop-before l = length l.self.path.items
