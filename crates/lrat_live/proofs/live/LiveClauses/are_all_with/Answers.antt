use Rattle.std.proofs.Common.{◌≡◌, ◌<◌, ◌∙◌, ap, subst, sym}
use Rattle.std.specs.Prelude.{All}
use Rattle.lrat_live.specs.Counts.{AreCounts, AreTaken, take_all, times, times_at}
use Rattle.lrat_live.specs.Near.{all_of}
use Rattle.lrat_live.specs.Pages.{count_in}
use Rattle.lrat_live.proofs.Listed.{rises_from}
use Rattle.lrat_live.proofs.CountLaws.{agrees_start, takes_start}
use Rattle.lrat_live.proofs.live.LiveClauses.are_all_with.Goals as goal

pub returns-then-branch-clause-all : goal.returns-then-branch-clause-all
returns-then-branch-clause-all c =
    let s = c.self.inside in
    let es = all_of s.near s.far in
    let counts : AreCounts (count_in c.count_all.new.counts) es =
    c.in_ok-count_all.ensures.counts in
    let total : c.count_of-total.result ≡ times c.args.lit es =
    c.count_of-total.ensures.count ∙ counts c.args.lit c.count_of-total.ensures.from_one in
    let from_one : All (λ e. 0 < e.0) es = rw c.self.view_is c.requires in
    let taken : AreTaken c.args.lit es (times c.args.lit es) 0 c.args.ids.now =
    subst (λ n. AreTaken c.args.lit es n 0 c.args.ids.now) total
    (c.in_ok-take_shown.ensures c.if-branch.true) in
    rw (← c.self.view_is) (sym (takes_start c.args.lit es from_one
    (rises_from es c.self.invariant.0) c.args.ids.now taken))

pub returns-clause-all : goal.returns-clause-all
returns-clause-all c =
    let s = c.self.inside in
    let es = all_of s.near s.far in
    let counts : AreCounts (count_in c.count_all.new.counts) es =
    c.in_ok-count_all.ensures.counts in
    let total : c.count_of-total.result ≡ times c.args.lit es =
    c.count_of-total.ensures.count ∙ counts c.args.lit c.count_of-total.ensures.from_one in
    let from_one : All (λ e. 0 < e.0) es = rw c.self.view_is c.requires in
    rw (← c.self.view_is) (c.take_all.ensures
    ∙ ap (λ n. take_all (times_at c.args.lit es) n 0 c.args.ids.now) total
    ∙ agrees_start c.args.lit es from_one (rises_from es c.self.invariant.0) c.args.ids.now)
