-- Many clauses that are detached at once.
use Rattle.std.proofs.Common.{◌≡◌, ◌≢◌, ℕ, zero, suc, Bool, true, false, not, List, [], ◌∷◌, get_or}
use Rattle.std.proofs.Common.{Option, Some, None, inl, inr, refl, sym, ◌∙◌, ap, subst, arith}
use Rattle.std.specs.Prelude.{All, IfSome}
use Rattle.std.specs.List.{AllByRecursion}
use Rattle.std.proofs.lemmas.Bool.{cases_Bool, both_ways}
use Rattle.clauses.specs.Slots.{Slots}
use Rattle.propagate_watches.specs.declared.pool.WatchEntry.{WatchEntry}
use Rattle.propagate_watches.specs.declared.table.Attachment.{Attachment}
use Rattle.propagate_watches.specs.declared.table.Attachment.TheVariants.{Detached}
use Rattle.propagate_watches.specs.Pool.{row_at}
use Rattle.propagate_watches.specs.Table.{is_kept, attachment_in}
use Rattle.propagate_watches.specs.Doomed.{is_doomed, spared_entries, spared_rows, IsSpared}
use Rattle.propagate_trail.specs.Trail.{Assigned}
use Rattle.propagate.specs.Watches.{EngineState, is_attached, watches_at, count_in}
use Rattle.propagate.specs.Fits.{Fits, FitsAttachment, HasBlocker}
use Rattle.propagate.specs.Doomed.{spared}
use Rattle.propagate.proofs.Attachments.{with_watches, attachment_same, count-cons, one-other}
use Rattle.propagate.proofs.Attaching.{Contains-filter}

-- rows

counted_gone : (doomed : List Bool) (q : ℕ) (row : List WatchEntry) → is_doomed doomed q ≡ true
    → count_in q (spared_entries doomed row) ≡ 0
counted_gone doomed q [] h = refl
counted_gone doomed q (x ∷ row) h = elim (cases_Bool (is_doomed doomed x.reference)) [
  | inl d ↦ rw d (counted_gone doomed q row h)
  | inr d ↦
      let ne : x.reference ≢ q = λ same. both_ways _ d (ap (is_doomed doomed) same ∙ h) in
      rw d (count-cons q x (spared_entries doomed row)
      ∙ omega (arith, one-other x.reference q ne, counted_gone doomed q row h))
]

counted_same : (doomed : List Bool) (q : ℕ) (row : List WatchEntry) → is_doomed doomed q ≡ false
    → count_in q (spared_entries doomed row) ≡ count_in q row
counted_same doomed q [] h = refl
counted_same doomed q (x ∷ row) h = elim (cases_Bool (is_doomed doomed x.reference)) [
  | inl d ↦
      let ne : x.reference ≢ q = λ same. both_ways _ h (ap (is_doomed doomed) (sym same) ∙ d) in
      rw d (counted_same doomed q row h
      ∙ omega (arith, count-cons q x row, one-other x.reference q ne))
  | inr d ↦ rw d (omega (
    arith,
    count-cons q x (spared_entries doomed row),
    count-cons q x row,
    counted_same doomed q row h,
  ))
]

row_spared : (doomed : List Bool) (R : List (List WatchEntry)) (i : ℕ)
    → row_at (spared_rows doomed R) i ≡ spared_entries doomed (row_at R i)
row_spared doomed [] i = refl
row_spared doomed (row ∷ R) zero = refl
row_spared doomed (row ∷ R) (suc i) = row_spared doomed R i

-- what stays attached

attached_spared : (e : EngineState) (doomed : List Bool) (t : List Attachment)
    (R : List (List WatchEntry)) (w : List ℕ) (q : ℕ) → IsSpared doomed e.watches.table t
    → is_doomed doomed q ≡ false → is_attached e q ≡ true
    → is_attached (with_watches e t R w) q ≡ true
attached_spared e doomed t R w q s d h = ap is_kept (s.stays q d) ∙ h

not_kept : (p : Attachment) → p ≡ Detached → is_kept p ≡ false
not_kept p e = ap is_kept e

-- what is attached is spared
spared_at : (doomed : List Bool) (old t : List Attachment) (q : ℕ) → IsSpared doomed old t
    → is_kept (attachment_in t q) ≡ true → is_doomed doomed q ≡ false
spared_at doomed old t q s h = elim (cases_Bool (is_doomed doomed q)) [
  | inl d ↦ absurd (both_ways _ (not_kept (attachment_in t q) (s.gone q d)) h)
  | inr d ↦ d
]

blockers_spared : (e : EngineState) (slots : Slots) (doomed : List Bool) (t : List Attachment)
    (R : List (List WatchEntry)) (w : List ℕ) (row : List WatchEntry)
    → IsSpared doomed e.watches.table t
    → AllByRecursion (HasBlocker e slots) row
    → AllByRecursion (HasBlocker (with_watches e t R w) slots) (spared_entries doomed row)
blockers_spared e slots doomed t R w [] s h = tt
blockers_spared e slots doomed t R w (x ∷ row) s h =
    elim (cases_Bool (is_doomed doomed x.reference)) [
      | inl d ↦ rw d (blockers_spared e slots doomed t R w row s h.1)
      | inr d ↦ rw d (
        (h.0.0, attached_spared e doomed t R w x.reference s d h.0.1, h.0.2, h.0.3),
        blockers_spared e slots doomed t R w row s h.1,
      )
    ]

reason_spared : (e : EngineState) (doomed : List Bool) (t : List Attachment)
    (R : List (List WatchEntry))
    (w : List ℕ) (o : Option ℕ) → IsSpared doomed e.watches.table t
    → IfSome o (λ r. is_attached e r ≡ true) → IfSome o (λ r. is_doomed doomed r ≡ false)
    → IfSome o (λ r. is_attached (with_watches e t R w) r ≡ true)
reason_spared e doomed t R w None s h d = tt
reason_spared e doomed t R w (Some r) s h d = attached_spared e doomed t R w r s d h

pub fits_spared : (e : EngineState) (slots : Slots) (doomed : List Bool) (t : List Attachment)
    → IsSpared doomed e.watches.table t
    → All (λ (a : Assigned). IfSome a.reason (λ r. is_doomed doomed r ≡ false)) e.trail
    → Fits e slots → Fits (with_watches e t (spared_rows doomed e.watches.rows)
    (spared doomed e.watches.waiting)) slots
fits_spared e slots doomed t s none fits =
    let R = spared_rows doomed e.watches.rows in
    let w = spared doomed e.watches.waiting in
    record {
      attached = λ q h.
          let d = spared_at doomed e.watches.table t q s h in
          let g = fits.attached q (sym (ap is_kept (s.stays q d)) ∙ h) in (
            g.0,
            g.1,
            (
              g.2.0,
              attachment_same e t R w g.0 (attachment_in t q)
                  (subst (λ x. FitsAttachment e g.0 x) (sym (s.stays q d)) g.2.1),
            ),
          );
      reasons = fits.reasons;
      reasons_attached =
          λ k d lt. reason_spared e doomed t R w (get_or e.trail k d).reason s
          (fits.reasons_attached k d lt) (none k d lt);
      small = fits.small;
      rows = λ i q. ap (count_in q) (row_spared doomed e.watches.rows i)
          ∙ elim (cases_Bool (is_doomed doomed q))
          as (λ _. count_in q (spared_entries doomed (row_at e.watches.rows i)) ≡ watches_at
          (attachment_in t q) i) [
            | inl d ↦ counted_gone doomed q (row_at e.watches.rows i) d
                ∙ sym (ap (λ p. watches_at p i) (s.gone q d))
            | inr d ↦ counted_same doomed q (row_at e.watches.rows i) d ∙ fits.rows i q
                ∙ sym (ap (λ p. watches_at p i) (s.stays q d))
          ];
      waiting = λ q h.
          let d = spared_at doomed e.watches.table t q s (ap is_kept h) in
          Contains-filter (λ r. not (is_doomed doomed r)) e.watches.waiting q (ap not d)
          (fits.waiting q (sym (s.stays q d) ∙ h));
      blockers =
          λ i. subst (AllByRecursion (HasBlocker (with_watches e t R w) slots))
          (sym (row_spared doomed e.watches.rows i))
          (blockers_spared e slots doomed t R w (row_at e.watches.rows i) s (fits.blockers i));
    }
