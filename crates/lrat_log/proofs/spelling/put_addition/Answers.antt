-- Where a fault came, a beginning of the line was put.
use Rattle.std.proofs.Common.{None, [], ap, sym}
use Rattle.std.proofs.lemmas.Result.{err_from_is_err_and}
use Rattle.lrat_log.specs.Log.{LogLine}
use Rattle.lrat_log.proofs.LineTexts.{id_fault, literals_fault, addition_puts}
use Rattle.lrat_log.proofs.spelling.put_addition.Goals as goal

pub returns-in_err-put_number : goal.returns-in_err-put_number
returns-in_err-put_number g c =
    let l = c.args.line.now in
    let p = err_from_is_err_and c.from_residual.result c.from_residual.ensures.1 in
    let q =
    id_fault _ _ None None _ [] [] [] c.args.base c.args.id l.clause l.hints
    c.in_err-put_number.ensures in
    rw (p.1) q

pub returns-in_err-put_literals : goal.returns-in_err-put_literals
returns-in_err-put_literals g c =
    let l = c.line.inside in
    let lits = ap (λ (x : LogLine). x.clause) c.line.view_is in
    let hints = ap (λ (x : LogLine). x.hints) c.line.view_is in
    let p =
    err_from_is_err_and c.from_residual-in_err-put_literals.result
    c.from_residual-in_err-put_literals.ensures.1 in
    let q =
    literals_fault _ _ _ None _ _ [] [] c.args.base c.args.id l.lits.now l.hints
    c.in_ok-put_number.ensures c.in_err-put_literals.ensures in
    rw (p.1, sym lits, sym hints) q

pub returns : goal.returns
returns g c =
    let l = c.line.inside in
    let lits = ap (λ (x : LogLine). x.clause) c.line.view_is in
    let hints = ap (λ (x : LogLine). x.hints) c.line.view_is in
    rw (sym lits, sym hints) (addition_puts _ _ _ _ _ _ _ _ c.args.base c.args.id l.lits.now
    l.hints c.put_end.result c.in_ok-put_number.ensures c.in_ok-put_literals.ensures
    c.put_end.ensures)
