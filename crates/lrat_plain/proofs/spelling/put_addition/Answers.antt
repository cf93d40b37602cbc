-- The id, the clause and the hints.
use Rattle.std.proofs.Common.{◌≡◌, ℕ, Bool, map}
use Rattle.text.proofs.Laws.{puts_after}
use Rattle.lrat_plain.specs.Names.{added, renumbered}
use Rattle.lrat_plain.proofs.Texts.{addition_text, named_text, puts_ok_as}
use Rattle.lrat_plain.proofs.spelling.put_addition.Goals as goal

pub returns : goal.returns
returns g c =
    let n = c.args.names.now in
    let line = c.args.line.now in
    let id : c.added.result ≡ added n line.id = cc in
    let r = c.put-2.result in
    puts_ok_as r _ _ _ _ _ _
    (addition_text (added n line.id) line.clause (map (λ (h : Bool × ℕ). renumbered n h.1)
    line.hints) _ (named_text (renumbered n) (λ (h : Bool × ℕ). h.1) line.hints))
    (puts_after r _ _ _ _ _ _ _ _ (rw id at c.in_ok-put_spaced.ensures)
    (puts_after r _ _ _ _ _ _ _ _ (rw c.lits.ensures at c.in_ok-put_lits.ensures)
    (puts_after r _ _ _ _ _ _ _ _ c.in_ok-put.ensures.puts
    (puts_after r _ _ _ _ _ _ _ _ (rw c.hints.ensures at c.in_ok-put_ids.ensures)
    c.put-2.ensures.puts))))
