use Rattle.std.proofs.Common.{◌≡◌, take}
use Rattle.cdcl_order.specs.Deletions.{sifted}
use Rattle.cdcl_order.proofs.deletions.sift.Given as goal

abbrev pub invariant-loop-candidate : goal.invariant-loop-candidate
invariant-loop-candidate l = sifted l.fn.standings (take l.candidate-index l.candidates)
    ≡ record { standings = l.standings; rest = l.rest.items }
