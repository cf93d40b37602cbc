-- Each literal is the same.
use Rattle.std.proofs.Common.{rules}
use Rattle.std.proofs.lemmas.Slice.Eq.{slice_eq-Decides}
use Rattle.contradiction.proofs.trials.is_same.Goals as goal

pub returns : goal.returns
returns c =
    λ yes. (slice_eq-Decides (λ a b. search rules) c.args.clause.now c.args.other.now _
    c.eq.ensures).0 yes
