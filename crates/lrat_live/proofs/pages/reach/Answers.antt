use Rattle.std.proofs.Common.{◌≡◌, ◌+◌, length, refl, arith, rules}
use Rattle.lrat_live.proofs.PageLaws.{reached}
use Rattle.lrat_live.proofs.pages.reach.Goals as goal

pub returns-clause-counts : goal.returns-clause-counts
returns-clause-counts c =
    let old = c.args.page.now in
    let long : length c.resize.new.self.items ≡ c.args.place + 1 = search rules in
    let kept = c.in_ok-resize.ensures.by_index in
    reached old.items c.resize.new.self.items (c.args.place + 1) long (omega arith)
    (λ k d h i. kept.0 k d h (omega (arith, old.ok.0)))
    (λ k d h i. kept.1 k d refl (omega (arith, old.ok.0)) i)
