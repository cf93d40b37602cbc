-- A fault left a beginning of what the block held.
use Rattle.std.proofs.Common.{◌∷◌, [], ◌++◌}
use Rattle.std.proofs.lemmas.Result.{err_from_is_err_and}
use Rattle.text.specs.Text.{literal_text}
use Rattle.text.proofs.Passing.{part-more}
use Rattle.text.proofs.output.Block.put_spaced.Goals as goal

pub returns-in_err-flush-clause-puts : goal.returns-in_err-flush-clause-puts
returns-in_err-flush-clause-puts g c =
    let p = err_from_is_err_and c.from_residual.result c.from_residual.ensures.1 in
    rw (p.1) (part-more _ _ c.args.self.now (literal_text c.args.lit ++ 32 ∷ [])
    c.in_err-flush.ensures.writes)
