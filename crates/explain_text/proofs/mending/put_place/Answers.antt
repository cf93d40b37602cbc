-- There is a column to tell.
use Rattle.std.proofs.lemmas.Bool.{ne_eqb}
use Rattle.explain_text.proofs.Sheets.{more}
use Rattle.explain_text.proofs.mending.put_place.Goals as goal

pub returns : goal.returns
returns g c =
    rw (ne_eqb c.args.column 0 c.if-column-eq0.false)
    (more c.put-2.ensures (more c.put_number.ensures c.put-3.ensures))
