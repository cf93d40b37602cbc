-- As many marks of fits as signatures, and the literals of a clause of the bin have places.
use Rattle.std.proofs.Common.{arith, length-take, length-drop}
use Rattle.eliminate_tables.proofs.bins.Bins.find_in.Goals as goal

pub maybe_subsets-requires : goal.maybe_subsets-requires
maybe_subsets-requires c = simp (length-take, length-drop) (omega arith)

pub lits-lits-requires : goal.lits-lits-requires
lits-lits-requires c = c.is_live.ensures.0 c.if-is_live.true

pub hold_against-against-requires : goal.hold_against-against-requires
hold_against-against-requires c = c.requires _ _ c.lits-lits.ensures
