-- The number that leads, and the ids.
use Rattle.std.proofs.Common.{ℕ, Bool, map}
use Rattle.text.proofs.Laws.{puts_after}
use Rattle.lrat_plain.specs.Names.{renumbered}
use Rattle.lrat_plain.proofs.Texts.{deletion_text, named_text, puts_ok_as}
use Rattle.lrat_plain.proofs.spelling.put_deletion.Goals as goal

pub returns : goal.returns
returns g c =
    let n = c.args.names.now in
    let r = c.put-2.result in
    puts_ok_as r _ _ _ _ _ _
    (deletion_text c.args.lead (map (λ (h : Bool × ℕ). renumbered n h.1) c.args.ids.now) _
    (named_text (renumbered n) (λ (h : Bool × ℕ). h.1) c.args.ids.now))
    (puts_after r _ _ _ _ _ _ _ _ c.in_ok-put_spaced.ensures
    (puts_after r _ _ _ _ _ _ _ _ c.in_ok-put.ensures.puts
    (puts_after r _ _ _ _ _ _ _ _ c.in_ok-put_ids.ensures c.put-2.ensures.puts)))
