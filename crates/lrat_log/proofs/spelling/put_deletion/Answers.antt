-- Where a fault came, a beginning of the line was put.
use Rattle.std.proofs.Common.{None, []}
use Rattle.std.proofs.lemmas.Result.{err_from_is_err_and}
use Rattle.lrat_log.proofs.LineTexts.{lead_fault, deletion_puts}
use Rattle.lrat_log.proofs.spelling.put_deletion.Goals as goal

pub returns-in_err-put_number : goal.returns-in_err-put_number
returns-in_err-put_number g c =
    let p = err_from_is_err_and c.from_residual.result c.from_residual.ensures.1 in
    let q =
    lead_fault _ _ None _ [] [] c.args.base c.args.lead c.args.hints.now c.requires.plain
    c.in_err-put_number.ensures in
    rw (p.1) q

pub returns : goal.returns
returns g c =
    deletion_puts _ _ _ _ _ _ c.args.base c.args.lead c.args.hints.now c.requires.plain
    c.put_end.result c.in_ok-put_number.ensures c.put_end.ensures
