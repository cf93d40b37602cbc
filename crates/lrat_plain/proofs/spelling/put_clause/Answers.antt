-- The literals, and then the end of the line.
use Rattle.text.proofs.Laws.{puts_after}
use Rattle.lrat_plain.proofs.Texts.{clause_text, puts_ok_as}
use Rattle.lrat_plain.proofs.spelling.put_clause.Goals as goal

pub returns : goal.returns
returns g c =
    puts_ok_as c.put.result _ _ _ _ _ _ (clause_text c.args.lits.now)
    (puts_after c.put.result _ _ _ _ _ _ _ _ c.in_ok-put_lits.ensures c.put.ensures.puts)
