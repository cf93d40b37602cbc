-- The text was written whole, so a failed flush leaves all of it.
use Rattle.std.proofs.lemmas.Result.{err_from_is_err_and}
use Rattle.text.proofs.Laws.{writes_kept}
use Rattle.report_text.proofs.best.write_words.Goals as goal

pub returns-in_err-write_end : goal.returns-in_err-write_end
returns-in_err-write_end g c =
    let p = err_from_is_err_and c.from_residual.result c.from_residual.ensures.1 in
    rw (p.1) (c.in_err-write_end.ensures)

pub returns : goal.returns
returns g c =
    writes_kept c.map_err.result _ _ _ _ c.in_ok-write_end.ensures c.flush.ensures.bytes
