-- The words, and then the numbers.
use Rattle.std.proofs.Common.{◌≡◌}
use Rattle.text.proofs.Laws.{puts_after}
use Rattle.lrat_plain.proofs.Texts.{header_text, puts_ok_as}
use Rattle.lrat_plain.proofs.spelling.put_header.Goals as goal

pub returns : goal.returns
returns g c =
    let v : c.from.result ≡ c.args.variables = cc in
    let r = c.put-2.result in
    puts_ok_as r _ _ _ _ _ _ (header_text c.args.variables c.args.count)
    (puts_after r _ _ _ _ _ _ _ _ c.in_ok-put.ensures.puts
    (puts_after r _ _ _ _ _ _ _ _ (rw v at c.in_ok-put_spaced.ensures)
    (puts_after r _ _ _ _ _ _ _ _ c.in_ok-put_number.ensures.puts c.put-2.ensures.puts)))
