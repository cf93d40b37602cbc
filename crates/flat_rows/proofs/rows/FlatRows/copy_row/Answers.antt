use Rattle.std.proofs.Common.{◌∙◌}
use Rattle.std.proofs.lemmas.Result.{IfOk-from_err}
use Rattle.flat_rows.proofs.Rewriting.{copied_more}
use Rattle.flat_rows.proofs.rows.FlatRows.copy_row.Goals as goal

pub loop-i-preserved : goal.loop-i-preserved
loop-i-preserved g c =
    c.in_ok-push.ensures.ok
    ∙ copied_more c.args.self.now.rows c.loop-i.self.rows c.args.row c.loop-i.i _ c.get.result
    c.requires.here c.loop-i.invariant c.get.ensures

pub returns-in_err-push : goal.returns-in_err-push
returns-in_err-push g c =
    IfOk-from_err c.from_residual.result _ c.from_residual.ensures.0
