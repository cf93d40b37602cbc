-- One part after another.
use Rattle.std.proofs.lemmas.Bool.{eq-eqb, ne_eqb}
use Rattle.explain_text.proofs.Laws.{more}
use Rattle.explain_certificate.proofs.reasoning.put_times.Goals as goal

pub returns-then-times-eq1 : goal.returns-then-times-eq1
returns-then-times-eq1 g c =
    rw (eq-eqb c.args.times 1 c.if-times-eq1.true) c.put.ensures

pub returns : goal.returns
returns g c =
    rw (ne_eqb c.args.times 1 c.if-times-eq1.false)
    (more c.put-2.ensures (more c.put_number.ensures c.put-3.ensures))
