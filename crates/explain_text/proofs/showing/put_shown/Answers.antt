-- A byte more.
use Rattle.std.proofs.Common.{ap, ◌∙◌, rules}
use Rattle.std.proofs.lemmas.List.{drop_more, take_rest}
use Rattle.explain_text.specs.Showing.{left_at, shown_behind}
use Rattle.explain_text.proofs.Sheets.{leads_on, leads_same}
use Rattle.explain_text.proofs.showing.put_shown.Goals as goal

pub loop-place-preserved : goal.loop-place-preserved
loop-place-preserved g c =
    let e = drop_more c.args.line.now c.loop-place.place 0 (search rules) in
    let here =
    c.left_at-here.ensures
    ∙ ap (left_at c.loop-place.left) (take_rest c.args.line.now c.loop-place.place ∙ e) in
    rw (c.saturating_sub-left.ensures, here)
    (leads_on (rw (c.show.ensures, here) at c.put.ensures)
    (leads_same c.loop-place.invariant (ap (shown_behind c.loop-place.left) e)))
