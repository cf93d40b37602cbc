-- One literal more was put.
use Rattle.std.proofs.Common.{[], ◌∷◌, ◌++◌, rules}
use Rattle.cnf.specs.Literal.{Literal}
use Rattle.text.specs.Text.{literal_text}
use Rattle.text.proofs.Laws.{items_more}
use Rattle.lrat_plain.proofs.spelling.put_lits.Goals as goal

pub loop-lit-preserved : goal.loop-lit-preserved
loop-lit-preserved g c =
    items_more (λ (l : Literal). literal_text l ++ 32 ∷ []) _ _ _ _ _ _ [] c.args.lits.now
    c.loop-lit.lit-index c.lit-item.result (search rules) c.lit-item.is c.loop-lit.invariant
    c.in_ok-put_spaced.ensures.puts
