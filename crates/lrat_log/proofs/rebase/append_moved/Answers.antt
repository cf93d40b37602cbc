-- The line is still one.
use Rattle.std.proofs.Common.{◌∙◌, subst, sym}
use Rattle.lrat_log.specs.Log.{IsLine}
use Rattle.lrat_log.specs.Rebase.{moved_line}
use Rattle.lrat_log.proofs.Rebasing.{moved_line-is}
use Rattle.lrat_log.proofs.rebase.append_moved.Goals as goal

pub append-requires : goal.append-requires
append-requires c =
    let hints = c.deref.ensures.value ∙ c.in_ok-move_hints.ensures in
    record {
      line = rw (hints)
          (subst (λ l. IsLine (moved_line c.args.fixed c.args.count l)) (sym c.line.view_is)
          (moved_line-is c.args.fixed c.args.count c.args.line.now c.requires.line
          c.requires.ids));
    }
