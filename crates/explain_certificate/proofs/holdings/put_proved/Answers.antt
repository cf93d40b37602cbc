-- One part after another.
use Rattle.std.proofs.lemmas.Bool.{eq-eqb, ne_eqb}
use Rattle.cnf.specs.declared.limits.TheConstants.{NUMBER_LIMIT}
use Rattle.explain_text.proofs.Laws.{more}
use Rattle.explain_certificate.proofs.holdings.put_proved.Goals as goal

pub returns-then-proved-eq-NUMBER_LIMIT : goal.returns-then-proved-eq-NUMBER_LIMIT
returns-then-proved-eq-NUMBER_LIMIT g c =
    rw (eq-eqb c.args.proved NUMBER_LIMIT c.if-proved-eq-NUMBER_LIMIT.true)
    (more c.put_end.ensures c.put.ensures)

pub returns : goal.returns
returns g c =
    rw (ne_eqb c.args.proved NUMBER_LIMIT c.if-proved-eq-NUMBER_LIMIT.false)
    (more c.put_end.ensures (more c.put-2.ensures (more c.put_number.ensures c.put-3.ensures)))
