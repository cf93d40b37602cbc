-- One part after another, with a sign or with none.
use Rattle.std.proofs.Common.{[]}
use lib.Chars.{codes}
use Rattle.explain_text.specs.Sheets.{Displays}
use Rattle.explain_text.proofs.Laws.{more, nothing}
use Rattle.explain_certificate.proofs.reasoning.put_literal.Goals as goal
use Rattle.explain_certificate.proofs.reasoning.put_literal.Goals.{then-is_negated, else-is_negated}

pub returns : goal.returns
returns g c =
    let digits = more c.put_number.ensures c.put-2.ensures in
    elim c.if-is_negated.branch [
      | then-is_negated w ↦
          let sign : Displays (g.W.Write.contents c.put.new.writer) c.put.new.self (codes "-")
          (g.W.Write.contents c.if-is_negated.writer) c.if-is_negated.sheet =
          rw (w.sheet-is, w.writer-is) w.put-then-is_negated.ensures in
          (_, more c.put.ensures (more sign digits))
      | else-is_negated w ↦
          let none : Displays (g.W.Write.contents c.put.new.writer) c.put.new.self []
          (g.W.Write.contents c.if-is_negated.writer) c.if-is_negated.sheet =
          rw (w.sheet-is, w.writer-is) (nothing _ _) in
          (_, more c.put.ensures (more none digits))
    ]
