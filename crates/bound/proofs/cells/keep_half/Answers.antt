-- The clauses of two inputs, and then those of one of them, and of the carry.
use Rattle.std.proofs.lemmas.Result.{on_ok_weaker}
use Rattle.bound.proofs.Rows.{adds_half}
use Rattle.bound.proofs.cells.keep_half.Goals as goal

pub returns : goal.returns
returns c =
    rw (c.new-s.ensures, c.new-c.ensures) at (on_ok_weaker c.keep_rows-3.result
    (adds_half c.args.clauses.now c.keep_rows.new.clauses c.keep_rows-2.new.clauses
    c.keep_rows-3.new.clauses c.args.cell.a c.negation-na.result c.args.cell.b c.negation-nb.result
    c.new-s.result c.negation-ns.result c.new-c.result c.negation-nc.result c.negation-na.ensures
    c.negation-nb.ensures c.negation-ns.ensures c.negation-nc.ensures c.in_ok-keep_rows.ensures
    c.in_ok-keep_rows-2.ensures)
    c.keep_rows-3.ensures)
