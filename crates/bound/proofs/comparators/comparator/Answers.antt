-- The law of comparators, whose clauses have no repeat.
use Rattle.std.proofs.Common.{◌≡◌, ◌++◌, ◌∙◌}
use Rattle.bound.specs.Bound.{comparator_of}
use Rattle.bound.proofs.Covers.{covers_larger}
use Rattle.bound.proofs.Fits.{comparator_once}
use Rattle.bound.proofs.comparators.comparator.Goals as goal

pub copy_clauses-requires : goal.copy_clauses-requires
copy_clauses-requires c =
    let same : c.keep_comparator.new.clauses
    ≡ comparator_of c.args.network.now.outputs c.args.k =
    c.in_ok-keep_comparator.ensures
    ∙ (λ i. c.new-clauses.ensures i ++ comparator_of (c.outputs.ensures i) c.args.k) in
    rw same (comparator_once c.args.network.now.outputs c.args.k)

pub returns-clause-covers : goal.returns-clause-covers
returns-clause-covers c = covers_larger c.args.network.now.outputs c.args.k
