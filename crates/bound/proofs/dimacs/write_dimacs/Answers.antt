-- What was put before a fault is a beginning of the text.
use Rattle.std.proofs.Common.{[], ◌++◌, ◌∙◌, ap, length}
use Rattle.std.proofs.lemmas.Result.{err_from_is_err_and}
use Rattle.bound.specs.Bound.{dimacs_text, header_line}
use Rattle.bound.proofs.Streams.{IsPutUpTo, lines_of, dimacs_left, put_more, put_fault, all_put}
use Rattle.bound.proofs.Streams.{part_from_empty, writes_from_empty}
use Rattle.bound.proofs.dimacs.write_dimacs.Given.{Over}
use Rattle.bound.proofs.dimacs.write_dimacs.Goals as goal
use Rattle.bound.proofs.dimacs.write_dimacs.Goals.{After-len}

-- nothing is put yet, and this is what is left
begun : (g : Over) (c : After-len g)
    → IsPutUpTo (g.W.Write.contents c.args.writer.now) c.new-block.result
    (dimacs_text c.args.formula.now)
    (header_line c.vars.result c.len.result ++ (lines_of c.clauses-clauses.result.now ++ []))
    (g.W.Write.contents c.args.writer.now) c.new-block.result
begun g c =
    dimacs_left c.args.formula.now c.vars.result c.len.result c.clauses-clauses.result.now
    c.vars.ensures.vars (c.len.ensures ∙ ap length c.clauses-clauses.ensures)
    c.clauses-clauses.ensures (g.W.Write.contents c.args.writer.now) c.new-block.result

pub returns-in_err-put_header : goal.returns-in_err-put_header
returns-in_err-put_header g c =
    let p = err_from_is_err_and c.from_residual.result c.from_residual.ensures.1 in
    let start = begun g (goal.at.returns-in_err-put_header g c).After-len in
    rw (p.1) (part_from_empty _ _ _ _ c.new-block.ensures
    (put_fault _ _ _ _ _ _ _ _ start c.in_err-put_header.ensures))

pub returns-in_err-put_clauses : goal.returns-in_err-put_clauses
returns-in_err-put_clauses g c =
    let p = err_from_is_err_and c.from_residual-in_err-put_clauses.result
    c.from_residual-in_err-put_clauses.ensures.1 in
    let start = begun g (goal.at.returns-in_err-put_clauses g c).After-len in
    let headed = put_more _ _ _ _ _ _ _ _ start _ c.in_ok-put_header.ensures in
    rw (p.1) (part_from_empty _ _ _ _ c.new-block.ensures
    (put_fault _ _ _ _ _ _ _ _ headed c.in_err-put_clauses.ensures))

pub returns : goal.returns
returns g c =
    let start = begun g (goal.at.returns g c).After-len in
    let headed = put_more _ _ _ _ _ _ _ _ start _ c.in_ok-put_header.ensures in
    let all = all_put _ _ _ _ _ (put_more _ _ _ _ _ _ _ _ headed _ c.in_ok-put_clauses.ensures) in
    writes_from_empty c.flush.result _ _ _ _ _ _ c.new-block.ensures all c.flush.ensures.writes
