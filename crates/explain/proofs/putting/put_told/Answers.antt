-- Another cost was told.
use Rattle.std.proofs.lemmas.Bool.{ne_eqb}
use Rattle.explain_text.proofs.Laws.{more}
use Rattle.explain.proofs.putting.put_told.Goals as goal

pub returns : goal.returns
returns g c =
    rw (ne_eqb c.args.cost c.args.told c.if-cost-told.false)
    (more c.put.ensures c.put_number.ensures)
