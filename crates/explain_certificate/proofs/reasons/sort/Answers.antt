use Rattle.std.proofs.Common.{rules, ◌-◌}
use Rattle.std.proofs.lemmas.List.Sorted.{IsNonDecreasingBy-from_sort_by_key}
use Rattle.explain.specs.Falsified.{most_weight}
use Rattle.lrat_read.specs.Words.{NamedFact}
use Rattle.explain_certificate.proofs.reasons.sort.Goals as goal

pub returns-clause-heaviest : goal.returns-clause-heaviest
returns-clause-heaviest c =
    IsNonDecreasingBy-from_sort_by_key (λ (g : NamedFact). most_weight - g.weight) _
    c.in_ok-sort_by_key.ensures.sorted (λ a r q k. search rules)
