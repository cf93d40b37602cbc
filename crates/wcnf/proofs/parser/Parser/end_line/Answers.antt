-- The line that was ended is the rest and these bytes.
use Rattle.std.proofs.lemmas.Result.{err_from_is_err_and}
use Rattle.wcnf.proofs.ParserLaws.{line_more, line_refused}
use Rattle.wcnf.proofs.parser.Parser.end_line.Goals as goal

pub returns-in_err-read_line-clause-fault : goal.returns-in_err-read_line-clause-fault
returns-in_err-read_line-clause-fault c =
    let p =
    err_from_is_err_and c.from_residual.result
    c.from_residual.ensures.1 in
    rw (p.1, p.2) (line_refused c.args.self.now c.args.end.now c.in-Ok.line.now c.requires
    c.in-Ok.ensures _ c.in_err-read_line.ensures.fault)

pub returns-clause-read : goal.returns-clause-read
returns-clause-read c =
    line_more c.args.self.now _ c.args.end.now c.in-Ok.line.now c.requires
    c.in-Ok.ensures c.clear.ensures c.in_ok-read_line.ensures.read
    c.in_ok-read_line.ensures.counted
