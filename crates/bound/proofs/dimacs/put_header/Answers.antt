-- Where a fault came, a beginning of the line was put.
use Rattle.std.proofs.Common.{◌≡◌}
use Rattle.std.proofs.lemmas.Result.{err_from_is_err_and}
use Rattle.text.proofs.Laws.{passed-more}
use Rattle.bound.proofs.Lines.{name_fault, variables_fault, between_fault, count_fault, header_end}
use Rattle.bound.proofs.dimacs.put_header.Goals as goal

pub returns-in_err-put : goal.returns-in_err-put
returns-in_err-put g c =
    let p = err_from_is_err_and c.from_residual.result c.from_residual.ensures.1 in
    rw (p.1) (name_fault _ _ _ c.args.vars c.args.count c.in_err-put.ensures.puts)

pub returns-in_err-put_number : goal.returns-in_err-put_number
returns-in_err-put_number g c =
    let p =
    err_from_is_err_and c.from_residual-in_err-put_number.result
    c.from_residual-in_err-put_number.ensures.1 in
    let v : c.args.vars ≡ c.from.result = cc in
    rw (p.1, v) (variables_fault _ _ _ _ _ c.from.result c.args.count c.in_ok-put.ensures.puts
    c.in_err-put_number.ensures.puts)

pub returns-in_err-put-2 : goal.returns-in_err-put-2
returns-in_err-put-2 g c =
    let p =
    err_from_is_err_and c.from_residual-in_err-put-2.result c.from_residual-in_err-put-2.ensures.1
    in
    let v : c.args.vars ≡ c.from.result = cc in
    let first = passed-more _ _ _ _ _ _ _ _ c.in_ok-put.ensures.puts
    c.in_ok-put_number.ensures.puts in
    rw (p.1, v) (between_fault _ _ _ _ _ c.from.result c.args.count first
    c.in_err-put-2.ensures.puts)

pub returns-in_err-put_number-2 : goal.returns-in_err-put_number-2
returns-in_err-put_number-2 g c =
    let p =
    err_from_is_err_and c.from_residual-in_err-put_number-2.result
    c.from_residual-in_err-put_number-2.ensures.1 in
    let v : c.args.vars ≡ c.from.result = cc in
    let first = passed-more _ _ _ _ _ _ _ _ c.in_ok-put.ensures.puts
    c.in_ok-put_number.ensures.puts in
    rw (p.1, v) (count_fault _ _ _ _ _ _ _ c.from.result c.args.count first
    c.in_ok-put-2.ensures.puts c.in_err-put_number-2.ensures.puts)

pub returns : goal.returns
returns g c =
    let v : c.args.vars ≡ c.from.result = cc in
    let first = passed-more _ _ _ _ _ _ _ _ c.in_ok-put.ensures.puts
    c.in_ok-put_number.ensures.puts in
    rw v (header_end c.put-3.result _ _ _ _ _ _ _ _ _ _ c.from.result c.args.count first
    c.in_ok-put-2.ensures.puts c.in_ok-put_number-2.ensures.puts c.put-3.ensures.puts)
