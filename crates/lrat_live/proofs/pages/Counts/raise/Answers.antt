-- One more in the place's page.
use Rattle.std.proofs.Common.{◌+◌, Vec, Global, ℕ, ap, ◌∙◌}
use Rattle.std.specs.Prelude.{◌==◌}
use Rattle.std.proofs.lemmas.Result.{on_ok_weaker}
use Rattle.cnf.specs.Numbers.{one_if}
use Rattle.lrat_live.specs.Pages.{count_in}
use Rattle.lrat_live.proofs.PageLaws.{page_raised}
use Rattle.lrat_live.proofs.pages.Counts.raise.Goals as goal

pub returns : goal.returns
returns c =
    let pages = c.reach_page.new.pages.items in
    let reached = c.in_ok-reach_page.ensures in
    on_ok_weaker c.raise_one.result (λ step p.
    page_raised (λ (v : Vec ℕ Global). v.items) pages c.args.place c.index_mut.result.now
    c.raise_one.new.page reached.within c.index_mut.ensures.value step p
    ∙ ap (λ n. n + one_if (p == c.args.place)) (reached.counts p
    ∙ ap (λ rows. count_in rows p) c.self.view_is)) c.raise_one.ensures
