-- Where a fault came, a beginning of the line was put.
use Rattle.std.specs.Fmt.{decimal}
use lib.Chars.{codes}
use Rattle.std.proofs.lemmas.Result.{err_from_is_err_and}
use Rattle.report_text.proofs.NoLine.{words_fault, number_fault, end_fault, line_written}
use Rattle.report_text.proofs.printing.print_numbered.Goals as goal

pub returns-in_err-put : goal.returns-in_err-put
returns-in_err-put g c =
    let p = err_from_is_err_and c.from_residual.result c.from_residual.ensures.1 in
    rw p.1 (words_fault _ _ _ (decimal c.args.number) (codes "\n")
    (rw c.new-block.ensures at c.in_err-put.ensures.puts))

pub returns-in_err-put_number : goal.returns-in_err-put_number
returns-in_err-put_number g c =
    let p =
    err_from_is_err_and c.from_residual-in_err-put_number.result
    c.from_residual-in_err-put_number.ensures.1 in
    rw p.1 (number_fault _ _ _ (decimal c.args.number) (codes "\n") _ _
    (rw c.new-block.ensures at c.in_ok-put.ensures.puts) c.in_err-put_number.ensures.puts)

pub returns-in_err-put-2 : goal.returns-in_err-put-2
returns-in_err-put-2 g c =
    let p =
    err_from_is_err_and c.from_residual-in_err-put-2.result c.from_residual-in_err-put-2.ensures.1
    in
    rw p.1 (end_fault _ _ _ (decimal c.args.number) (codes "\n") _ _
    (rw c.new-block.ensures at c.in_ok-put.ensures.puts) _ _ c.in_ok-put_number.ensures.puts
    c.in_err-put-2.ensures.puts)

pub returns : goal.returns
returns g c =
    line_written _ _ _ (decimal c.args.number) (codes "\n") _ _
    (rw c.new-block.ensures at c.in_ok-put.ensures.puts) _ _ c.in_ok-put_number.ensures.puts _ _
    c.in_ok-put-2.ensures.puts c.flush.result c.flush.ensures.writes
