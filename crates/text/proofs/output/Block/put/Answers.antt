-- A fault left a beginning of what the block held, and a text longer than the block goes straight
-- to the writer.
use Rattle.std.proofs.lemmas.Result.{err_from_is_err_and}
use Rattle.text.proofs.Passing.{part-more, puts_directly}
use Rattle.text.proofs.output.Block.put.Goals as goal

pub returns-in_err-flush-clause-puts : goal.returns-in_err-flush-clause-puts
returns-in_err-flush-clause-puts g c =
    let p = err_from_is_err_and c.from_residual.result c.from_residual.ensures.1 in
    rw (p.1) (part-more _ _ c.args.self.now c.args.text.now c.in_err-flush.ensures.writes)

pub returns-then-text-gt-BLOCK_SIZE-clause-puts : goal.returns-then-text-gt-BLOCK_SIZE-clause-puts
returns-then-text-gt-BLOCK_SIZE-clause-puts g c =
    rw (c.in_ok-flush.ensures.empty)
    (puts_directly c.write_piece.result _ _ _ c.args.self.now c.args.text.now
    c.in_ok-flush.ensures.writes c.write_piece.ensures)
