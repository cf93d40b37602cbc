-- One id more was put.
use Rattle.std.proofs.Common.{◌≡◌, ℕ, [], ◌∷◌, ◌++◌, Bool, rules}
use Rattle.std.specs.Fmt.{decimal}
use Rattle.text.proofs.Laws.{items_more}
use Rattle.lrat_plain.specs.Names.{renumbered}
use Rattle.lrat_plain.proofs.spelling.put_ids.Goals as goal

pub loop-id-preserved : goal.loop-id-preserved
loop-id-preserved g c =
    let same : c.renumbered.result ≡ renumbered c.args.names.now c.id-item.result.1 = cc in
    items_more (λ (i : Bool × ℕ). decimal (renumbered c.args.names.now i.1) ++ 32 ∷ []) _ _ _ _ _ _
    [] c.args.ids.now c.loop-id.id-index c.id-item.result (search rules) c.id-item.is
    c.loop-id.invariant (rw same at c.in_ok-put_spaced.ensures)
