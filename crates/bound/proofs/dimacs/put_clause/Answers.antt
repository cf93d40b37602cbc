-- Where a fault came, a beginning of the line was put.
use Rattle.std.proofs.Common.{[], rules}
use Rattle.std.proofs.lemmas.Result.{err_from_is_err_and}
use Rattle.bound.proofs.Lines.{literal_fault, literal_more, clause_end}
use Rattle.bound.proofs.dimacs.put_clause.Goals as goal

pub returns-in_err-put_spaced : goal.returns-in_err-put_spaced
returns-in_err-put_spaced g c =
    let p = err_from_is_err_and c.from_residual.result c.from_residual.ensures.1 in
    rw (p.1) (literal_fault _ _ _ _ _ [] _ _ c.lit-item.result (search rules) c.lit-item.is
    c.loop-lit.invariant c.in_err-put_spaced.ensures.puts)

pub loop-lit-preserved : goal.loop-lit-preserved
loop-lit-preserved g c =
    literal_more _ _ _ _ _ _ _ _ c.lit-item.result (search rules) c.lit-item.is c.loop-lit.invariant
    c.in_ok-put_spaced.ensures.puts

pub returns : goal.returns
returns g c =
    clause_end _ _ _ _ _ _ c.args.lits.now c.loop-lit.lit-index c.put.result (search rules)
    c.loop-lit.invariant c.put.ensures.puts
