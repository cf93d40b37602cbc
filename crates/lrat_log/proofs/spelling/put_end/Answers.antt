-- Where a fault came, a beginning of the line's end was put.
use Rattle.std.proofs.Common.{None, []}
use Rattle.std.proofs.lemmas.Result.{err_from_is_err_and}
use Rattle.lrat_log.proofs.LineTexts.{word_fault, hints_fault, end_puts}
use Rattle.lrat_log.proofs.spelling.put_end.Goals as goal

pub returns-in_err-put : goal.returns-in_err-put
returns-in_err-put g c =
    let p = err_from_is_err_and c.from_residual.result c.from_residual.ensures.1 in
    rw (p.1) (word_fault _ _ None None _ [] [] [] c.args.word.now c.args.base c.args.hints.now
    c.in_err-put.ensures.puts)

pub returns-in_err-put_hints : goal.returns-in_err-put_hints
returns-in_err-put_hints g c =
    let p =
    err_from_is_err_and c.from_residual-in_err-put_hints.result
    c.from_residual-in_err-put_hints.ensures.1 in
    rw (p.1) (hints_fault _ _ _ None _ _ [] [] c.args.word.now c.args.base c.args.hints.now
    c.in_ok-put.ensures.puts c.in_err-put_hints.ensures)

pub returns : goal.returns
returns g c =
    end_puts _ _ _ _ _ _ _ _ c.args.word.now c.args.base c.args.hints.now c.put-2.result
    c.in_ok-put.ensures.puts c.in_ok-put_hints.ensures c.put-2.ensures.puts
