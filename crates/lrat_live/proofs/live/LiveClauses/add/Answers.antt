use Rattle.std.proofs.Common.{◌≡◌, ◌<◌, List, ℕ, true, sym, subst}
use Rattle.std.specs.Prelude.{All}
use Rattle.cnf.specs.Literal.{Literal}
use Rattle.lrat_live.specs.Counts.{AreCounts}
use Rattle.lrat_live.specs.Listed.{IsRising}
use Rattle.lrat_live.specs.Near.{all_of}
use Rattle.lrat_live.specs.Pages.{count_in}
use Rattle.lrat_live.proofs.Listed.{rising_push}
use Rattle.lrat_live.proofs.live.LiveClauses.add.Goals as goal

pub invariant_of-self-2 : goal.invariant_of-self-2
invariant_of-self-2 c =
    let s = c.self.inside in
    let es = all_of s.near s.far in
    let old : All (λ (e : ℕ × List Literal). e.0 < c.args.id) es =
    rw c.self.view_is c.requires.rising in
    subst (λ xs. IsRising xs × (c.count_last-self-inside.result ≡ true
    → AreCounts (count_in c.count_last-self-inside.new.counts) xs)) (sym c.in_ok-put.ensures.ok) (
      rising_push es c.args.id c.args.lits.now c.self.invariant.0 old,
      λ yes. c.count_last-self-inside.ensures es c.args.id c.self.invariant.1 yes,
    )
