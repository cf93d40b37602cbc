-- Where a fault came, a beginning of the text was put.
use lib.Chars.{codes}
use Rattle.std.proofs.lemmas.Result.{err_from_is_err_and}
use Rattle.report_text.specs.Answering.{digits_text}
use Rattle.report_text.proofs.NoLine.{words_fault, number_fault, end_fault, line_written}
use Rattle.report_text.proofs.answering.write_end.Goals as goal

pub returns-in_err-put : goal.returns-in_err-put
returns-in_err-put g c =
    let p = err_from_is_err_and c.from_residual.result c.from_residual.ensures.1 in
    rw p.1 (words_fault _ _ _ (digits_text c.args.bits.now) (codes "\n")
    (rw c.new-block.ensures at c.in_err-put.ensures.puts))

pub returns-in_err-put_bits : goal.returns-in_err-put_bits
returns-in_err-put_bits g c =
    let p =
    err_from_is_err_and c.from_residual-in_err-put_bits.result
    c.from_residual-in_err-put_bits.ensures.1 in
    rw p.1 (number_fault _ _ _ (digits_text c.args.bits.now) (codes "\n") _ _
    (rw c.new-block.ensures at c.in_ok-put.ensures.puts) c.in_err-put_bits.ensures)

pub returns-in_err-put-2 : goal.returns-in_err-put-2
returns-in_err-put-2 g c =
    let p =
    err_from_is_err_and c.from_residual-in_err-put-2.result c.from_residual-in_err-put-2.ensures.1
    in
    rw p.1 (end_fault _ _ _ (digits_text c.args.bits.now) (codes "\n") _ _
    (rw c.new-block.ensures at c.in_ok-put.ensures.puts) _ _ c.in_ok-put_bits.ensures
    c.in_err-put-2.ensures.puts)

pub returns : goal.returns
returns g c =
    line_written _ _ _ (digits_text c.args.bits.now) (codes "\n") _ _
    (rw c.new-block.ensures at c.in_ok-put.ensures.puts) _ _ c.in_ok-put_bits.ensures _ _
    c.in_ok-put-2.ensures.puts c.flush.result c.flush.ensures.writes
