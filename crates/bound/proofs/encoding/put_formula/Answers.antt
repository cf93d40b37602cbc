-- What was put before a fault is a beginning of the text.
use Rattle.std.proofs.Common.{◌++◌, [], refl}
use Rattle.std.proofs.lemmas.Result.{err_from_is_err_and}
use Rattle.bound.specs.Bound.{kept, dimacs_text, header_line}
use Rattle.bound.specs.Encoding.{outlined}
use Rattle.bound.proofs.Streams.{IsPutUpTo, lines_of, cells_kept, parts_left, put_more, put_fault}
use Rattle.bound.proofs.Streams.{all_put, part_from_empty, whole_from_empty, flush_from_empty}
use Rattle.bound.proofs.encoding.put_formula.Given.{Over}
use Rattle.bound.proofs.encoding.put_formula.Goals as goal
use Rattle.bound.proofs.encoding.put_formula.Goals.{After-new-block}

-- nothing is put yet, and this is what is left
begun : (g : Over) (c : After-new-block g)
    → (let o = c.args.outline.now in
    IsPutUpTo (g.W.Write.contents c.args.writer.now) c.new-block.result
    (dimacs_text (outlined c.args.instance.now.hard o))
    (header_line o.vars o.count ++ (lines_of (kept c.args.instance.now.hard) ++ (lines_of o.relaxed
    ++ (lines_of (cells_kept o.network.cells) ++ (lines_of o.comparator ++ [])))))
    (g.W.Write.contents c.args.writer.now) c.new-block.result)
begun g c =
    let o = c.args.outline.now in
    let hard = c.args.instance.now.hard in
    parts_left (outlined hard o) o.vars o.count (kept hard) o.relaxed (cells_kept o.network.cells)
    o.comparator refl c.requires.count refl (g.W.Write.contents c.args.writer.now)
    c.new-block.result

pub returns-in_err-put_header : goal.returns-in_err-put_header
returns-in_err-put_header g c =
    let p =
    err_from_is_err_and c.from_residual.result c.from_residual.ensures.1 in
    let start = begun g (goal.at.returns-in_err-put_header g c).After-new-block in
    rw (p.1) (part_from_empty _ _ _ _ c.new-block.ensures
    (put_fault _ _ _ _ _ _ _ _ start c.in_err-put_header.ensures))

pub returns-in_err-put_hard : goal.returns-in_err-put_hard
returns-in_err-put_hard g c =
    let p =
    err_from_is_err_and c.from_residual-in_err-put_hard.result
    c.from_residual-in_err-put_hard.ensures.1 in
    let start = begun g (goal.at.returns-in_err-put_hard g c).After-new-block in
    let header = put_more _ _ _ _ _ _ _ _ start _ c.in_ok-put_header.ensures in
    rw (p.1) (part_from_empty _ _ _ _ c.new-block.ensures
    (put_fault _ _ _ _ _ _ _ _ header c.in_err-put_hard.ensures))

pub returns-in_err-put_clauses : goal.returns-in_err-put_clauses
returns-in_err-put_clauses g c =
    let p =
    err_from_is_err_and c.from_residual-in_err-put_clauses.result
    c.from_residual-in_err-put_clauses.ensures.1 in
    let start = begun g (goal.at.returns-in_err-put_clauses g c).After-new-block in
    let header = put_more _ _ _ _ _ _ _ _ start _ c.in_ok-put_header.ensures in
    let hard = put_more _ _ _ _ _ _ _ _ header _ c.in_ok-put_hard.ensures in
    rw (p.1) (part_from_empty _ _ _ _ c.new-block.ensures
    (put_fault _ _ _ _ _ _ _ _ hard c.in_err-put_clauses.ensures))

pub returns-in_err-put_cells : goal.returns-in_err-put_cells
returns-in_err-put_cells g c =
    let p =
    err_from_is_err_and c.from_residual-in_err-put_cells.result
    c.from_residual-in_err-put_cells.ensures.1 in
    let start = begun g (goal.at.returns-in_err-put_cells g c).After-new-block in
    let header = put_more _ _ _ _ _ _ _ _ start _ c.in_ok-put_header.ensures in
    let hard = put_more _ _ _ _ _ _ _ _ header _ c.in_ok-put_hard.ensures in
    let soft = put_more _ _ _ _ _ _ _ _ hard _ c.in_ok-put_clauses.ensures in
    rw (p.1) (part_from_empty _ _ _ _ c.new-block.ensures
    (put_fault _ _ _ _ _ _ _ _ soft c.in_err-put_cells.ensures))

pub returns-in_err-put_clauses-2 : goal.returns-in_err-put_clauses-2
returns-in_err-put_clauses-2 g c =
    let p =
    err_from_is_err_and c.from_residual-in_err-put_clauses-2.result
    c.from_residual-in_err-put_clauses-2.ensures.1 in
    let start = begun g (goal.at.returns-in_err-put_clauses-2 g c).After-new-block in
    let header = put_more _ _ _ _ _ _ _ _ start _ c.in_ok-put_header.ensures in
    let hard = put_more _ _ _ _ _ _ _ _ header _ c.in_ok-put_hard.ensures in
    let soft = put_more _ _ _ _ _ _ _ _ hard _ c.in_ok-put_clauses.ensures in
    let cells = put_more _ _ _ _ _ _ _ _ soft _ c.in_ok-put_cells.ensures in
    rw (p.1) (part_from_empty _ _ _ _ c.new-block.ensures
    (put_fault _ _ _ _ _ _ _ _ cells c.in_err-put_clauses-2.ensures))

pub returns-in_err-flush : goal.returns-in_err-flush
returns-in_err-flush g c =
    let p =
    err_from_is_err_and c.from_residual-in_err-flush.result c.from_residual-in_err-flush.ensures.1
    in
    let start = begun g (goal.at.returns-in_err-flush g c).After-new-block in
    let header = put_more _ _ _ _ _ _ _ _ start _ c.in_ok-put_header.ensures in
    let hard = put_more _ _ _ _ _ _ _ _ header _ c.in_ok-put_hard.ensures in
    let soft = put_more _ _ _ _ _ _ _ _ hard _ c.in_ok-put_clauses.ensures in
    let cells = put_more _ _ _ _ _ _ _ _ soft _ c.in_ok-put_cells.ensures in
    let compared = put_more _ _ _ _ _ _ _ _ cells _ c.in_ok-put_clauses-2.ensures in
    rw (p.1) (flush_from_empty _ _ _ _ _ _ c.new-block.ensures (all_put _ _ _ _ _ compared)
    c.in_err-flush.ensures.writes)

pub returns : goal.returns
returns g c =
    let start = begun g (goal.at.returns g c).After-new-block in
    let header = put_more _ _ _ _ _ _ _ _ start _ c.in_ok-put_header.ensures in
    let hard = put_more _ _ _ _ _ _ _ _ header _ c.in_ok-put_hard.ensures in
    let soft = put_more _ _ _ _ _ _ _ _ hard _ c.in_ok-put_clauses.ensures in
    let cells = put_more _ _ _ _ _ _ _ _ soft _ c.in_ok-put_cells.ensures in
    let compared = put_more _ _ _ _ _ _ _ _ cells _ c.in_ok-put_clauses-2.ensures in
    whole_from_empty _ _ _ _ _ _ c.new-block.ensures (all_put _ _ _ _ _ compared)
    c.in_ok-flush.ensures.writes
