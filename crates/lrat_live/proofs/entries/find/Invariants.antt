use Rattle.std.proofs.Common.{length}
use Rattle.lrat_live.specs.Table.{entry_spans, keys_of}
use Rattle.lrat_live.proofs.Chains.{IsOnWalk}
use Rattle.lrat_live.proofs.entries.find.Given as goal

abbrev pub invariant-loop-place : goal.invariant-loop-place
invariant-loop-place l = IsOnWalk (length l.heads) l.id (keys_of (entry_spans l.entries)) l.place

abbrev pub decreases-loop-place : goal.decreases-loop-place
decreases-loop-place l = l.place
