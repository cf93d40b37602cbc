-- What follows the last line feed is one more line, if it is not empty.
use Rattle.std.proofs.lemmas.Result.{err_from_is_err_and}
use Rattle.wcnf.proofs.ParserLaws.{ends_empty, ends_line, finished_refused}
use Rattle.wcnf.proofs.parser.Parser.end_text.Goals as goal

pub returns-then-is_empty-clause-ends : goal.returns-then-is_empty-clause-ends
returns-then-is_empty-clause-ends c =
    λ bytes s. ends_empty c.args.self.now bytes (c.is_empty.ensures.empty c.if-is_empty.true) s

pub returns-in_err-read_line-clause-fault : goal.returns-in_err-read_line-clause-fault
returns-in_err-read_line-clause-fault c =
    let p = err_from_is_err_and c.from_residual.result c.from_residual.ensures.1 in
    rw (p.1, p.2) (finished_refused c.args.self.now (c.is_empty.ensures.some c.if-is_empty.false) _
    (rw c.bytes.ensures at c.in_err-read_line.ensures.fault))

pub returns-clause-ends : goal.returns-clause-ends
returns-clause-ends c =
    λ bytes s. ends_line c.args.self.now (c.is_empty.ensures.some c.if-is_empty.false) bytes s _
    (rw c.bytes.ensures at c.in_ok-read_line.ensures.read)
