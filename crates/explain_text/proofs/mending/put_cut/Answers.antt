-- The bytes are too many.
use Rattle.std.proofs.Common.{subst}
use Rattle.explain_text.specs.Showing.{shown_text}
use Rattle.explain_text.specs.Sheets.{Displays}
use Rattle.explain_text.proofs.Sheets.{more}
use Rattle.explain_text.proofs.Words.{cut_long}
use Rattle.explain_text.proofs.mending.put_cut.Goals as goal

pub returns : goal.returns
returns g c =
    rw (cut_long c.args.bytes.now c.if-bytes-le-MOST_SHOWN.false)
    (more
    (subst (λ z. Displays (g.W.Write.contents c.args.writer.now) c.args.sheet.now (shown_text z)
    (g.W.Write.contents c.put_shown-2.new.writer) c.put_shown-2.new.sheet) c.cut.ensures
    c.put_shown-2.ensures)
    c.put.ensures)
