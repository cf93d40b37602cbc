-- The clauses of the soft clauses before the index were added, and the variables are within those
-- that have marks.
use Rattle.std.proofs.Common.{◌≡◌, take, length}
use Rattle.adder.specs.Network.{relaxing_of}
use Rattle.bound.proofs.Relaxations.{IsRelaxedTo}
use Rattle.bound.proofs.relaxing.keep_relaxed.Given as goal

abbrev pub invariant-loop-soft : goal.invariant-loop-soft
invariant-loop-soft l =
    IsRelaxedTo (relaxing_of l.profile) l.fn.instance.variables (take l.soft-index l.soft-items)
    l.initial.clauses l.clauses l.last × (length l.marks ≡ length l.initial.marks)
