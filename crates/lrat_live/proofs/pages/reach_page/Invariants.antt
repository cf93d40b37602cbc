-- Pages of which no place was counted say nothing more.
use Rattle.std.proofs.Common.{◌≡◌, ℕ, ◌+◌, ◌-◌, length, map}
use Rattle.lrat_live.specs.Pages.{count_in}
use Rattle.lrat_live.proofs.pages.reach_page.Given as goal

abbrev pub invariant-loop-pages : goal.invariant-loop-pages
invariant-loop-pages l = (p : ℕ) → count_in (map (λ x. x.items) l.pages.items) p
    ≡ count_in (map (λ x. x.items) l.fn.pages.items) p

abbrev pub decreases-loop-pages : goal.decreases-loop-pages
decreases-loop-pages l = l.page + 1 - length l.pages.items
