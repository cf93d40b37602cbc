-- The costs told are the bounds so far and the cost in hand, which is below them.
use Rattle.std.proofs.Common.{◌≡◌}
use Rattle.lrat_log.specs.Steps.{learned_count}
use Rattle.cdcl_order.specs.Budgets.{WaivesAs}
use Rattle.improve.specs.Bounds.{IsOver}
use Rattle.improve.specs.Standing.{starting_with, MovesStanding}
use Rattle.improve_found.specs.Watch.{AreShown}
use Rattle.improve.proofs.search.descending.descend.Given as goal

abbrev pub invariant-bounds : goal.invariant-bounds
invariant-bounds g l = record {
  over : IsOver l.instance (l.descent).bounds;
  profile : ((l.descent).bounds).profile ≡ ((l.fn.descent).bounds).profile;
  hard : (l.descent).hard ≡ (l.fn.descent).hard;
  goes_on : MovesStanding l.instance (g.T.Progress.state l.fn.progress)
      (g.T.Progress.state l.progress)
      l.fn.budget l.budget (starting_with (l.fn.descent).best)
      (record { best = (l.descent).best; earlier = ((l.descent).bounds).costs.items })
      0 (learned_count (((l.descent).bounds).solver).sink);
  follows : (first : g.row.T.Denot) → g.T.Progress.follows first l.fn.progress
      → g.T.Progress.follows first l.progress;
  shown : AreShown l.instance (g.T.Progress.state l.fn.progress) (g.T.Progress.state l.progress)
      (g.W.SearchWatch.seen l.fn.watch) (g.W.SearchWatch.seen l.watch);
  waives : WaivesAs l.fn.budget l.budget (g.W.SearchWatch.waived l.fn.watch)
      (g.W.SearchWatch.waived l.watch);
}

abbrev pub decreases-bounds : goal.decreases-bounds
decreases-bounds g l = ((l.descent).best).cost
