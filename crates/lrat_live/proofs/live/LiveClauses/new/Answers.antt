use Rattle.std.proofs.Common.{◌≡◌, false, true, sym, subst}
use Rattle.std.proofs.lemmas.Bool.{false≢true}
use Rattle.lrat_live.specs.Counts.{AreCounts}
use Rattle.lrat_live.specs.Listed.{listed_from, IsRising}
use Rattle.lrat_live.specs.Pages.{count_in}
use Rattle.lrat_live.proofs.Listed.{rising_start}
use Rattle.lrat_live.proofs.live.LiveClauses.new.Goals as goal
use Rattle.lrat_live.proofs.LiveLaws.{all_first}

pub invariant_of-result : goal.invariant_of-result
invariant_of-result c =
    subst (λ xs. IsRising xs × (false ≡ true → AreCounts (count_in c.new-3.result) xs))
    (sym (all_first c.in_ok-new.field-0 c.new-2.result (listed_from 1 c.args.formula.clauses)
    c.in_ok-new.ensures.given c.new-2.ensures c.in_ok-new.ensures.recent))
    (rising_start c.args.formula.clauses, λ yes. absurd (false≢true yes))

pub returns : goal.returns
returns c =
    all_first c.in_ok-new.field-0 c.new-2.result (listed_from 1 c.args.formula.clauses)
    c.in_ok-new.ensures.given c.new-2.ensures c.in_ok-new.ensures.recent
