-- The line was written whole, so a failed flush leaves all of it.
use Rattle.std.proofs.Common.{ℕ, ◌∙◌, arith, subst}
use Rattle.std.proofs.lemmas.List.{take_all, length-drop}
use Rattle.std.proofs.lemmas.Result.{err_from_is_err_and}
use Rattle.text.specs.Writing.{AppendsPart}
use Rattle.text.proofs.Laws.{writes_as, writes_kept}
use Rattle.report_text.proofs.told.write_cost.Goals as goal

pub returns-in_err-write_piece : goal.returns-in_err-write_piece
returns-in_err-write_piece g c =
    let p = err_from_is_err_and c.from_residual.result c.from_residual.ensures.1 in
    rw (p.1) (subst (AppendsPart _ _)
    (take_all _ _ (omega (arith, length-drop {A = ℕ}))
    ∙ c.spell_cost-start.ensures.text) c.in_err-write_piece.ensures)

pub returns : goal.returns
returns g c =
    writes_as c.map_err.result _ _
    (take_all _ _ (omega (arith, length-drop {A = ℕ}))
    ∙ c.spell_cost-start.ensures.text)
    (writes_kept c.map_err.result _ _ _ _ c.in_ok-write_piece.ensures c.flush.ensures.bytes)
