-- The id, and the hint.
use Rattle.std.proofs.Common.{[], ◌∷◌, ◌++◌, append-nil}
use Rattle.std.specs.Fmt.{decimal}
use Rattle.text.proofs.Laws.{puts_after}
use Rattle.lrat_plain.proofs.Texts.{addition_text, puts_ok_as}
use Rattle.lrat_plain.proofs.spelling.put_empty.Goals as goal

pub returns : goal.returns
returns g c =
    let r = c.put-2.result in
    puts_ok_as r _ _ _ _ _ _
    (addition_text c.args.id [] (c.args.hint ∷ []) (decimal c.args.hint ++ 32 ∷ [])
    (append-nil (decimal c.args.hint ++ 32 ∷ [])))
    (puts_after r _ _ _ _ _ _ _ _ c.in_ok-put_spaced.ensures
    (puts_after r _ _ _ _ _ _ _ _ c.in_ok-put.ensures.puts
    (puts_after r _ _ _ _ _ _ _ _ c.in_ok-put_spaced-2.ensures c.put-2.ensures.puts)))
