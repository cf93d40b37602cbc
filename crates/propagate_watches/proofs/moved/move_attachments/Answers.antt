use Rattle.std.proofs.Common.{◌≡◌, ℕ, sym, ◌∙◌, ap, arith}
use Rattle.std.proofs.lemmas.List.{get_or_default}
use Rattle.clauses.specs.Slots.{new_at}
use Rattle.propagate_watches.specs.Table.{attachment_in}
use Rattle.propagate_watches.proofs.Moving.{moving_start, moving_end, moving_hit, moving_gap}
use Rattle.propagate_watches.proofs.moved.move_attachments.Goals as goal
use Rattle.propagate_watches.proofs.moved.move_attachments.Goals.{then-next-pairs+then-index-at}
use Rattle.propagate_watches.proofs.moved.move_attachments.Goals.{then-next-pairs+else-index-at}
use Rattle.propagate_watches.proofs.moved.move_attachments.Goals.{else-next-pairs}

pub loop-at-init : goal.loop-at-init
loop-at-init c = moving_start c.args.table.now c.args.pairs.now c.requires.rising c.requires.lower

pub loop-at-preserved : goal.loop-at-preserved
loop-at-preserved c =
    let old = c.args.table.now in
    let ms = c.args.pairs.now in
    let new = c.loop-at.table in
    let at = c.loop-at.at in
    let next = c.loop-at.next in
    elim c.if-next-pairs.branch [
      | then-next-pairs+then-index-at w ↦
          let e : new_at ms next ≡ at =
          ap (λ (p : ℕ × ℕ). p.1)
          (sym (get_or_default ms next w.index-pairs-next-then-next-pairs.result (
            0,
            0,
          ) w.if-next-pairs.true)) ∙ sym w.index.ensures ∙ w.if-index-at.true in
          let is = w.attachment-is ∙ w.get-attachment.ensures
          ∙ ap (attachment_in new) (w.index-then-index-at.ensures
          ∙ ap (λ (p : ℕ × ℕ). p.0) (get_or_default ms next w.index-pairs-next.result (
            0,
            0,
          ) w.if-next-pairs.true)) in
          rw (c.set.ensures, w.next-is) (moving_hit old ms c.requires.rising c.requires.lower new at
          next c.if-next-pairs.attachment c.loop-at.invariant
          (omega (arith, c.len-at-end.ensures, c.loop-at-test.true)) w.if-next-pairs.true e is)
      | then-next-pairs+else-index-at w ↦
          rw (c.set.ensures, w.attachment-is, w.next-is)
          (moving_gap old ms c.requires.rising c.requires.lower new at next c.loop-at.invariant
          (omega (arith, c.len-at-end.ensures, c.loop-at-test.true))
          (λ h e. w.if-index-at.false (w.index.ensures
          ∙ ap (λ (p : ℕ × ℕ). p.1)
          (get_or_default ms next w.index-pairs-next-then-next-pairs.result (0, 0) h) ∙ e)))
      | else-next-pairs w ↦
          rw (c.set.ensures, w.attachment-is, w.next-is)
          (moving_gap old ms c.requires.rising c.requires.lower new at next c.loop-at.invariant
          (omega (arith, c.len-at-end.ensures, c.loop-at-test.true))
          (λ h. absurd (omega (arith, w.if-next-pairs.false))))
    ]

pub returns : goal.returns
returns c =
    moving_end c.args.table.now c.args.pairs.now c.requires.rising c.requires.lower c.loop-at.table
    c.loop-at.at c.loop-at.next c.loop-at.invariant
    (omega (arith, c.len-at-end.ensures, c.loop-at-test.false))
