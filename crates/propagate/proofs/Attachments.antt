-- A clause that gets another place.
use Rattle.std.proofs.Common.{◌≡◌, ◌≢◌, ℕ, ◌+◌, true, cond, eqb, List, [], ◌∷◌, get_or, Option}
use Rattle.std.proofs.Common.{Some, None, ◌⊎◌, inl, inr, sym, ◌∙◌, ap, subst, arith}
use Rattle.std.specs.Prelude.{All, IfSome, Contains, ◌==◌}
use Rattle.std.specs.List.{AllByRecursion}
use Rattle.std.proofs.lemmas.Bool.{cases_eq, eq-eqb, ne_eqb, cond-true, cond-false}
use Rattle.std.proofs.lemmas.List.Elements.{All-weaker}
use Rattle.std.proofs.lemmas.List.Sums.{sum_by-cons}
use Rattle.cnf.specs.Literal.{Literal}
use Rattle.clauses.specs.Slots.{Slots, clause_at}
use Rattle.propagate_watches.specs.declared.pool.WatchEntry.{WatchEntry}
use Rattle.propagate_watches.specs.declared.table.Attachment.{Attachment}
use Rattle.propagate_watches.specs.declared.table.Attachment.TheVariants.{Detached, Waiting}
use Rattle.propagate_watches.specs.declared.table.Attachment.TheVariants.{Satisfied}
use Rattle.propagate_watches.specs.declared.table.Attachment.TheVariants.{Watching}
use Rattle.propagate_watches.specs.Pool.{row_at}
use Rattle.propagate_watches.specs.Table.{is_kept, attachment_in}
use Rattle.propagate_trail.specs.Trail.{Assigned}
use Rattle.propagate.specs.Watches.{EngineState, is_attached, watches_at, one_at, count_in}
use Rattle.propagate.specs.Fits.{Fits, FitsAttachment, IsWithin, IsWatch, HasBlocker}
use Rattle.propagate.proofs.Facts.{some_weaker}

abbrev pub with_watches : EngineState → List Attachment → List (List WatchEntry) → List ℕ
    → EngineState
with_watches e table rows waiting =
    record e { watches = record e.watches { table = table; rows = rows; waiting = waiting } }

kept_other : (e : EngineState) (t : List Attachment) (R : List (List WatchEntry)) (w : List ℕ)
    (r : ℕ) → ((q : ℕ) → q ≢ r → attachment_in t q ≡ attachment_in e.watches.table q)
    → is_kept (attachment_in t r) ≡ true → (q : ℕ) → is_attached e q ≡ true
    → is_attached (with_watches e t R w) q ≡ true
kept_other e t R w r other here q h = elim (cases_eq q r) [
  | inl same ↦ ap (λ x. is_kept (attachment_in t x)) same ∙ here
  | inr ne ↦ ap is_kept (other q ne) ∙ h
]

reason_kept : (e : EngineState) (t : List Attachment) (R : List (List WatchEntry)) (w : List ℕ)
    (r : ℕ) → ((q : ℕ) → q ≢ r → attachment_in t q ≡ attachment_in e.watches.table q)
    → (o : Option ℕ) → IfSome o (λ q. is_attached e q ≡ true) → (o ≡ Some r → ⊥)
    → IfSome o (λ q. is_attached (with_watches e t R w) q ≡ true)
reason_kept e t R w r other None h n = tt
reason_kept e t R w r other (Some q) h n = ap is_kept (other q (λ same. n (ap Some same))) ∙ h

pub watch_same : (e : EngineState) (t : List Attachment) (R : List (List WatchEntry)) (w : List ℕ)
    (c : List Literal) (l : Literal) → IsWatch e c l → IsWatch (with_watches e t R w) c l
watch_same e t R w c l h = record { member = h.member; covered = h.covered; stays = h.stays }

pub attachment_same : (e : EngineState) (t : List Attachment) (R : List (List WatchEntry))
    (w : List ℕ) (c : List Literal) (p : Attachment) → FitsAttachment e c p
    → FitsAttachment (with_watches e t R w) c p
attachment_same e t R w c Detached h = h
attachment_same e t R w c Waiting h = h
attachment_same e t R w c Satisfied h = h
attachment_same e t R w c (Watching one other rest) h =
    (h.0, watch_same e t R w c one h.1, watch_same e t R w c other h.2, h.3)

pub fits_attachment : (e : EngineState) (slots : Slots) (r : ℕ) (t : List Attachment)
    (R : List (List WatchEntry)) (w : List ℕ) → Fits e slots
    → ((q : ℕ) → q ≢ r → attachment_in t q ≡ attachment_in e.watches.table q)
    → (is_kept (attachment_in t r) ≡ true → (c : List Literal) × (clause_at slots r ≡ Some c)
    × (IsWithin e.variables c × FitsAttachment e c (attachment_in t r)))
    → (is_kept (attachment_in t r) ≡ true) ⊎ All (λ (a : Assigned). a.reason ≡ Some r → ⊥) e.trail
    → ((i q : ℕ) → count_in q (row_at R i) ≡ watches_at (attachment_in t q) i)
    → ((q : ℕ) → attachment_in t q ≡ Waiting → Contains w q)
    → ((i : ℕ) → AllByRecursion (HasBlocker (with_watches e t R w) slots) (row_at R i))
    → Fits (with_watches e t R w) slots
fits_attachment e slots r t R w fits other here reason rows waiting blockers = record {
  attached = λ q h. elim (cases_eq q r) [
    | inl same ↦
        let g = here (ap (λ x. is_kept (attachment_in t x)) (sym same) ∙ h) in (
          g.0,
          ap (clause_at slots) same ∙ g.1,
          (
            g.2.0,
            attachment_same e t R w g.0 (attachment_in t q)
                (subst (λ x. FitsAttachment e g.0 (attachment_in t x)) (sym same) g.2.1),
          ),
        )
    | inr ne ↦
        let g = fits.attached q (sym (ap is_kept (other q ne)) ∙ h) in (
          g.0,
          g.1,
          (
            g.2.0,
            attachment_same e t R w g.0 (attachment_in t q)
                (subst (λ x. FitsAttachment e g.0 x) (sym (other q ne)) g.2.1),
          ),
        )
  ];
  reasons = fits.reasons;
  reasons_attached = elim reason [
    | inl kept ↦ All-weaker (λ (a : Assigned). IfSome a.reason (λ q. is_attached e q ≡ true))
        (λ (a : Assigned). IfSome a.reason (λ q. is_attached (with_watches e t R w) q ≡ true))
        (λ a h. some_weaker (λ q. is_attached e q ≡ true) (λ q. is_attached (with_watches e t R w) q
        ≡ true) a.reason (kept_other e t R w r other kept) h) e.trail fits.reasons_attached
    | inr none ↦ λ k d lt. reason_kept e t R w r other (get_or e.trail k d).reason
        (fits.reasons_attached k d lt) (none k d lt)
  ];
  small = fits.small;
  rows = rows;
  waiting = waiting;
  blockers = blockers;
}

-- the entries of a row are of attached clauses still
pub blockers_kept : (e : EngineState) (slots : Slots) (r : ℕ) (t : List Attachment)
    (R : List (List WatchEntry)) (w : List ℕ) (row : List WatchEntry)
    → ((q : ℕ) → q ≢ r → attachment_in t q ≡ attachment_in e.watches.table q)
    → is_kept (attachment_in t r) ≡ true
    → AllByRecursion (HasBlocker e slots) row
    → AllByRecursion (HasBlocker (with_watches e t R w) slots) row
blockers_kept e slots r t R w [] other kept h = tt
blockers_kept e slots r t R w (x ∷ row) other kept h = (
  (h.0.0, kept_other e t R w r other kept x.reference h.0.1, h.0.2, h.0.3),
  blockers_kept e slots r t R w row other kept h.1,
)

pub count-cons : (r : ℕ) (x : WatchEntry) (row : List WatchEntry)
    → count_in r (x ∷ row) ≡ one_at x.reference r + count_in r row
count-cons r x row = sum_by-cons (λ (y : WatchEntry). cond (y.reference == r) 1 0) x row

pub one-same : (m n : ℕ) → m ≡ n → one_at m n ≡ 1
one-same m n e = cond-true (eqb m n) 1 0 (eq-eqb m n e)

pub one-other : (m n : ℕ) → m ≢ n → one_at m n ≡ 0
one-other m n e = cond-false (eqb m n) 1 0 (ne_eqb m n e)

pub blockers_gone : (e : EngineState) (slots : Slots) (r : ℕ) (t : List Attachment)
    (R : List (List WatchEntry)) (w : List ℕ) (row : List WatchEntry)
    → ((q : ℕ) → q ≢ r → attachment_in t q ≡ attachment_in e.watches.table q) → count_in r row ≡ 0
    → AllByRecursion (HasBlocker e slots) row
    → AllByRecursion (HasBlocker (with_watches e t R w) slots) row
blockers_gone e slots r t R w [] other none h = tt
blockers_gone e slots r t R w (x ∷ row) other none h =
    let n = count-cons r x row in
    let ne : x.reference ≢ r = λ same. let o = one-same x.reference r same in omega arith in (
      (h.0.0, ap is_kept (other x.reference ne) ∙ h.0.1, h.0.2, h.0.3),
      blockers_gone e slots r t R w row other (omega arith) h.1,
    )
