use Rattle.std.proofs.Common.{length}
use Rattle.totalizer.proofs.stages.+add_outputs.Given as goal

abbrev pub decreases-add_outputs : goal.decreases-add_outputs
decreases-add_outputs l = length l.inputs.now
