-- One less in the place's page, if there is that page.
use Rattle.std.proofs.Common.{◌-◌, Vec, Global, ℕ, arith, ap, ◌∙◌}
use Rattle.std.specs.Prelude.{◌==◌}
use Rattle.cnf.specs.Numbers.{one_if}
use Rattle.lrat_live.specs.Pages.{count_in}
use Rattle.lrat_live.proofs.PageLaws.{page_lowered}
use Rattle.lrat_live.proofs.pages.Counts.lower.Goals as goal

pub returns : goal.returns
returns c = λ p.
    page_lowered (λ (v : Vec ℕ Global). v.items) c.self.inside.pages.items c.args.place
    c.index_mut.result.now c.lower_one.new.page (omega arith) c.index_mut.ensures.value
    c.lower_one.ensures p
    ∙ ap (λ n. n - one_if (p == c.args.place)) (ap (λ rows. count_in rows p) c.self.view_is)
