-- The number, and then the space.
use Rattle.text.proofs.Laws.{puts_after}
use Rattle.lrat_plain.proofs.Texts.{puts_ok}
use Rattle.lrat_plain.proofs.spelling.put_spaced.Goals as goal

pub returns : goal.returns
returns g c =
    puts_ok c.put.result _ _ _ _ _ (puts_after c.put.result _ _ _ _ _ _ _ _
    c.in_ok-put_number.ensures.puts c.put.ensures.puts)
