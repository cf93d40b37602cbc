use Rattle.std.proofs.Common.{◌++◌, [], subst}
use Rattle.std.proofs.lemmas.List.{append_assoc}
use Rattle.lrat_live.specs.Counts.{AreCounts}
use Rattle.lrat_live.specs.Pages.{count_in}
use Rattle.lrat_live.proofs.CountLaws.{counts_none}
use Rattle.lrat_live.proofs.live.count_all.Goals as goal

pub returns-clause-counts : goal.returns-clause-counts
returns-clause-counts c =
    let n = c.args.near.now in
    subst (AreCounts (count_in c.count_recent.new.counts))
    (append_assoc n.given c.args.far.now n.recent)
    (c.in_ok-count_recent.ensures (n.given ++ c.args.far.now) (c.in_ok-count.ensures n.given
    (c.in_ok-count_given.ensures [] (counts_none (count_in c.clear.new.self) c.clear.ensures))))
