use Rattle.std.proofs.Common.{◌∙◌, ap, sum_by}
use Rattle.std.proofs.lemmas.List.Sorted.{sum_by-IsPermutation}
use Rattle.cnf.specs.Bits.{assignment_of}
use Rattle.explain.specs.declared.falsified.GivenUp.{GivenUp}
use Rattle.explain.proofs.Listing.{weights_cost}
use Rattle.explain.proofs.falsified.given_up.Goals as goal

pub returns-clause-cost : goal.returns-clause-cost
returns-clause-cost c =
    sum_by-IsPermutation (λ (g : GivenUp). g.weight) c.in_ok-falsified.falsified.items
    c.sort.new.falsified.items c.in_ok-sort.ensures.permutes
    ∙ ap (sum_by (λ (g : GivenUp). g.weight)) c.in_ok-falsified.ensures
    ∙ weights_cost (assignment_of c.args.bits.now) 0 c.args.instance.now.soft
