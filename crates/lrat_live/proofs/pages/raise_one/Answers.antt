use Rattle.std.proofs.Common.{◌+◌, ap, ◌∙◌}
use Rattle.std.specs.Prelude.{◌==◌}
use Rattle.std.proofs.lemmas.Grind.{get_or_default_zero}
use Rattle.cnf.specs.Numbers.{one_if}
use Rattle.lrat_live.proofs.PageLaws.{set_more}
use Rattle.lrat_live.proofs.pages.raise_one.Goals as goal

pub returns : goal.returns
returns c = λ p.
    let xs = c.reach.new.page.items in
    set_more xs c.args.place _ c.in_ok-reach.ensures.within
    (ap (λ n. n + 1) (c.index-count.ensures
    ∙ get_or_default_zero xs c.args.place _ c.in_ok-reach.ensures.within)) p
    ∙ ap (λ n. n + one_if (p == c.args.place)) (c.in_ok-reach.ensures.counts p)
