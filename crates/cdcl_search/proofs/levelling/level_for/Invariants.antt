use Rattle.std.proofs.Common.{take}
use Rattle.cdcl_search.specs.Levelling.{Ranks}
use Rattle.cdcl_search.proofs.levelling.level_for.Given as goal

abbrev pub invariant-loop-lit : goal.invariant-loop-lit
invariant-loop-lit l = Ranks l.engine.trail (take l.lit-index l.lits) l.highest l.second
