-- One less, or none to take.
use Rattle.std.proofs.Common.{◌≡◌, arith, ◌∙◌}
use Rattle.std.specs.Prelude.{slice_index}
use Rattle.std.proofs.Math.ListN.{get_or-eq_default}
use Rattle.std.proofs.lemmas.Grind.{get_or_default_zero}
use Rattle.lrat_live.proofs.PageLaws.{set_less, none_less}
use Rattle.lrat_live.proofs.pages.lower_one.Goals as goal

pub returns-then-place-len : goal.returns-then-place-len
returns-then-place-len c =
    let xs = c.args.page.now.items in
    none_less xs c.args.place (get_or-eq_default xs 0 (omega arith))

pub returns-then-count-eq0 : goal.returns-then-count-eq0
returns-then-count-eq0 c =
    let xs = c.args.page.now.items in
    let same : c.index-count.result.now ≡ slice_index xs c.args.place =
    c.index-count.ensures ∙ get_or_default_zero xs c.args.place _ (omega arith) in
    none_less xs c.args.place (omega (arith, same))

pub returns : goal.returns
returns c =
    let xs = c.args.page.now.items in
    let same : c.index-count.result.now ≡ slice_index xs c.args.place =
    c.index-count.ensures ∙ get_or_default_zero xs c.args.place _ (omega arith) in
    set_less xs c.args.place _ (omega arith) (omega (arith, same))
