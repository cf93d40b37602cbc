-- Attachments move to the new references of the clauses.
use Rattle.std.proofs.Common.{◌≡◌, ◌≢◌, ℕ, ◌+◌, ◌<◌, ◌≤◌, true, List, length, set, map, Some, inl}
use Rattle.std.proofs.Common.{inr, refl, sym, ◌∙◌, ap, arith}
use Rattle.std.specs.Prelude.{All}
use Rattle.std.specs.List.Sorted.{IsStrictlyIncreasing}
use Rattle.std.proofs.lemmas.Bool.{cases_lt, false≢true}
use Rattle.std.proofs.lemmas.List.{get_or_past, length-set}
use Rattle.clauses.specs.Slots.{Renaming, renamed, old_at, new_at}
use Rattle.clauses.proofs.Laws.{renamed_at, rises_pairs}
use Rattle.clauses.proofs.Laws.{renamed_place, new_rise}
use Rattle.propagate_watches.specs.declared.table.Attachment.{Attachment}
use Rattle.propagate_watches.specs.declared.table.Attachment.TheVariants.{Detached}
use Rattle.propagate_watches.specs.Table.{attachment_in, is_kept}
use Rattle.propagate_watches.specs.Renames.{IsMoved, IsMoving}
use Rattle.propagate_watches.proofs.Attachments.{attachment_set_other, attachment_set_same}

pub moved_to : (old new : List Attachment) (ms : Renaming) (r q : ℕ) → IsMoved old new ms
    → renamed ms r ≡ Some q → attachment_in new q ≡ attachment_in old r
moved_to old new ms r q m e =
    let z = renamed_place ms r q e in
    ap (attachment_in new) (sym z.3) ∙ m.to z.0 z.1 ∙ ap (attachment_in old) z.2

pub moved_from : (old new : List Attachment) (ms : Renaming) (q : ℕ)
    → IsStrictlyIncreasing (map (λ m. m.0) ms) → IsMoved old new ms
    → is_kept (attachment_in new q) ≡ true → (r : ℕ) × (renamed ms r ≡ Some q)
moved_from old new ms q h m k =
    let z = m.from q k in
    (old_at ms z.0, renamed_at ms (old_at ms z.0) z.0 (rises_pairs ms h) z.1 refl ∙ ap Some z.2)

module _ (old : List Attachment) (ms : Renaming) (rising : IsStrictlyIncreasing (map (λ m. m.1) ms))
    (lower : All (λ m. m.1 ≤ m.0) ms) where
  pub moving_start : IsMoving old old ms 0 0
  moving_start = record {
    later = λ j h. refl;
    to = λ i h. absurd (omega arith);
    from = λ j h k. absurd (omega arith);
    below = λ i h. absurd (omega arith);
    above = λ i h l. omega arith;
    long = refl;
    within = omega arith;
  }

  -- a place that a move leads to
  pub moving_hit : (new : List Attachment) (at next : ℕ) (p : Attachment)
      → IsMoving old new ms at next → at < length old → next < length ms → new_at ms next ≡ at
      → p ≡ attachment_in new (old_at ms next)
      → IsMoving old (set new at p) ms (at + 1) (next + 1)
  moving_hit new at next p m lt some e is = record {
    later = λ j h. let ne : j ≢ at = omega arith in attachment_set_other new at j p ne
        ∙ m.later j (omega arith);
    to = λ i h. elim (cases_lt i next) [
      | inl less ↦ let ne : new_at ms i ≢ at = omega (arith, m.below i less) in
          attachment_set_other new at (new_at ms i) p ne ∙ m.to i less
      | inr more ↦
          let same : i ≡ next = omega arith in
          let here : new_at ms i ≡ at = ap (new_at ms) same ∙ e in
          let low : at ≤ old_at ms next = omega (arith, lower next (0, 0) some) in
          ap (attachment_in (set new at p)) here
          ∙ attachment_set_same new at p (omega (arith, m.long)) ∙ is
          ∙ m.later (old_at ms next) low ∙ ap (λ k. attachment_in old (old_at ms k)) (sym same)
    ];
    from = λ j h k. elim (cases_lt j at) [
      | inl less ↦
          let ne : j ≢ at = omega arith in
          let z = m.from j less (ap is_kept (sym (attachment_set_other new at j p ne)) ∙ k) in
          (z.0, omega (arith, z.1), z.2)
      | inr more ↦ let same : at ≡ j = omega arith in (next, omega arith, e ∙ same)
    ];
    below = λ i h. elim (cases_lt i next) [
      | inl less ↦ omega (arith, m.below i less)
      | inr more ↦ let same : i ≡ next = omega arith in omega (arith, ap (new_at ms) same)
    ];
    above = λ i h l. omega (arith, new_rise ms rising next i (omega arith) l);
    long = length-set new at p ∙ m.long;
    within = omega arith;
  }

  -- a place that none does
  pub moving_gap : (new : List Attachment) (at next : ℕ) → IsMoving old new ms at next
      → at < length old → (next < length ms → new_at ms next ≢ at)
      → IsMoving old (set new at Detached) ms (at + 1) next
  moving_gap new at next m lt none = record {
    later = λ j h. let ne : j ≢ at = omega arith in attachment_set_other new at j Detached ne
        ∙ m.later j (omega arith);
    to = λ i h. let ne : new_at ms i ≢ at = omega (arith, m.below i h) in
        attachment_set_other new at (new_at ms i) Detached ne ∙ m.to i h;
    from = λ j h k. elim (cases_lt j at) [
      | inl less ↦ let ne : j ≢ at = omega arith in
          m.from j less (ap is_kept (sym (attachment_set_other new at j Detached ne)) ∙ k)
      | inr more ↦
          let same : j ≡ at = omega arith in
          absurd (false≢true
          (sym (ap is_kept (ap (attachment_in (set new at Detached)) same
          ∙ attachment_set_same new at Detached (omega (arith, m.long)))) ∙ k))
    ];
    below = λ i h. omega (arith, m.below i h);
    above = λ i h l. elim (cases_lt next i) [
      | inl less ↦ omega (
        arith,
        new_rise ms rising next i less l,
        m.above next (omega arith) (omega arith),
      )
      | inr more ↦
          let same : i ≡ next = omega arith in
          let ne : new_at ms next ≢ at = none (omega arith) in
          let ne' : new_at ms i ≢ at = λ x. ne (ap (new_at ms) (sym same) ∙ x) in
          let z : at ≤ new_at ms i = m.above i h l in
          omega arith
    ];
    long = length-set new at Detached ∙ m.long;
    within = m.within;
  }

  pub moving_end : (new : List Attachment) (at next : ℕ) → IsMoving old new ms at next
      → length old ≤ at → IsMoved old new ms
  moving_end new at next m done = record {
    to = λ i h. elim (cases_lt i next) [
      | inl less ↦ m.to i less
      | inr more ↦
          let far : at ≤ new_at ms i = m.above i more h in
          let low : new_at ms i ≤ old_at ms i = lower i (0, 0) h in
          get_or_past new (new_at ms i) Detached (omega (arith, m.long))
          ∙ sym (get_or_past old (old_at ms i) Detached (omega arith))
    ];
    from = λ q k. elim (cases_lt q at) [
      | inl less ↦ let z = m.from q less k in (z.0, omega (arith, z.1, m.within), z.2)
      | inr more ↦ absurd (false≢true
          (sym (ap is_kept (get_or_past new q Detached (omega (arith, m.long)))) ∙ k))
    ];
  }
