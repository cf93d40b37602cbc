-- A queue that is at its end leaves nothing.
use Rattle.std.proofs.Common.{◌≡◌, ◌≢◌, ℕ, ◌+◌, ◌<◌, true, false, ◌||◌, List, [], ◌∷◌, ◌++◌, take}
use Rattle.std.proofs.Common.{length, get_or, Some, ◌⊎◌, inl, inr, refl, sym, ◌∙◌, ap, subst, arith}
use Rattle.std.specs.List.{AllByRecursion}
use Rattle.std.proofs.lemmas.Bool.{cases_eq, cases_Bool, or_cases, both_ways}
use Rattle.std.proofs.lemmas.List.{take_more, take_all, length-map, get_or_append_left}
use Rattle.cnf.specs.Literal.{Literal, negation, literal_eq, index_of}
use Rattle.cnf.specs.Clause.{contains_literal}
use Rattle.cnf.specs.Refute.{IsUnit, IsFalseUnder}
use Rattle.cnf.proofs.Laws.{literal_eq-true, all_at, negation_twice, contains-push, contains_front}
use Rattle.clauses.specs.Slots.{Slots, clause_at}
use Rattle.propagate_watches.specs.declared.pool.WatchEntry.{WatchEntry}
use Rattle.propagate_watches.specs.declared.table.Attachment.{Attachment}
use Rattle.propagate_watches.specs.declared.table.Attachment.TheVariants.{Detached, Waiting}
use Rattle.propagate_watches.specs.declared.table.Attachment.TheVariants.{Satisfied, Watching}
use Rattle.propagate_watches.specs.Pool.{row_at}
use Rattle.propagate_watches.specs.Table.{attachment_in}
use Rattle.propagate_trail.specs.Trail.{Assigned, literals_of, kept_to}
use Rattle.propagate.specs.Watches.{EngineState, is_attached, watches_at, count_in}
use Rattle.propagate.specs.Fits.{Fits, FitsAttachment, IsWatch, HasTrue, IsAttachedFixpoint}
use Rattle.propagate.specs.Steps.{IsTrueEntry, AreTrueWaiting}
use Rattle.propagate_trail.proofs.Laws.{kept_prefix, literals-append, NoTautology}
use Rattle.propagate_trail.proofs.Laws.{no_tautology}
use Rattle.propagate.proofs.Fitting.{with_progress, true_more}
use Rattle.propagate.proofs.Attachments.{count-cons, one-same, one-other}

-- what holds of the clauses of a row's entries holds of one that stands in the row
pub named_in_row : (P : ℕ → Type 0) (row : List WatchEntry) (r : ℕ) → 0 < count_in r row
    → AllByRecursion (λ w. P w.reference) row → P r
named_in_row P [] r n h = absurd (omega arith)
named_in_row P (x ∷ row) r n h = elim (cases_eq x.reference r) [
  | inl same ↦ subst P same h.0
  | inr ne ↦ named_in_row P row r (let a = count-cons r x row in
      let b = one-other x.reference r ne in omega arith) h.1
]

watch_advance : (e : EngineState) (slots : Slots) (w d : Literal) (r : ℕ) (c : List Literal)
    (x : Literal) → Fits e slots → e.watches.qhead < length e.trail
    → w ≡ negation (get_or (literals_of e.trail) e.watches.qhead d)
    → AllByRecursion (IsTrueEntry slots (literals_of e.trail)) (row_at e.watches.rows (index_of w))
    → clause_at slots r ≡ Some c → 0 < watches_at (attachment_in e.watches.table r) (index_of x)
    → IsWatch e c x → IsWatch (with_progress e e.trail e.watches.stable_qhead (e.watches.qhead + 1))
    c x
watch_advance e slots w d r c x fits lt at row live n h =
    let A = literals_of e.trail in
    let p = e.watches.qhead in
    let l = get_or A p d in
    let long = length-map e.trail (λ (a : Assigned). a.literal) in
    record {
      member = h.member;
      covered = λ m.
          let m' : (contains_literal (negation x) (take p A) || literal_eq (negation x) l) ≡ true =
          sym (contains-push (negation x) (take p A) l)
          ∙ ap (contains_literal (negation x)) (sym (take_more A p d (omega arith))) ∙ m in
          elim (or_cases (contains_literal (negation x) (take p A)) (literal_eq (negation x) l) m')
          as (λ _. HasTrue c A) [
            | inl before ↦ h.covered before
            | inr now ↦
                let same : x ≡ w =
                sym (negation_twice x) ∙ ap negation (literal_eq-true (negation x) l now)
                ∙ sym at in
                let n' : 0 < count_in r (row_at e.watches.rows (index_of w)) =
                subst (λ k. 0 < k) (sym (fits.rows (index_of w) r))
                (subst (λ z. 0 < watches_at (attachment_in e.watches.table r) (index_of z)) same
                n) in
                named_in_row (λ q. (d : List Literal) → clause_at slots q ≡ Some d → HasTrue d A)
                (row_at e.watches.rows (index_of w)) r n' row c live
          ];
      stays = h.stays;
    }

attachment_advance : (e : EngineState) (slots : Slots) (w d : Literal) (r : ℕ) (c : List Literal)
    (p : Attachment) → p ≡ attachment_in e.watches.table r → Fits e slots
    → e.watches.qhead < length e.trail
    → w ≡ negation (get_or (literals_of e.trail) e.watches.qhead d)
    → AllByRecursion (IsTrueEntry slots (literals_of e.trail)) (row_at e.watches.rows (index_of w))
    → clause_at slots r ≡ Some c → FitsAttachment e c p
    → FitsAttachment (with_progress e e.trail e.watches.stable_qhead (e.watches.qhead + 1)) c p
attachment_advance e slots w d r c Detached same fits lt at row live h = h
attachment_advance e slots w d r c Waiting same fits lt at row live h = h
attachment_advance e slots w d r c Satisfied same fits lt at row live h = h
attachment_advance e slots w d r c (Watching one other rest) same fits lt at row live h = (
  h.0,
  watch_advance e slots w d r c one fits lt at row live
      (subst (λ z. 0 < watches_at z (index_of one)) same
      (let a = one-same (index_of one) (index_of one) refl in omega arith)) h.1,
  watch_advance e slots w d r c other fits lt at row live
      (subst (λ z. 0 < watches_at z (index_of other)) same
      (let a = one-same (index_of other) (index_of other) refl in omega arith)) h.2,
  h.3,
)

-- one more literal was looked at
pub fits_advance : (e : EngineState) (slots : Slots) (w d : Literal)
    → e.watches.qhead < length e.trail
    → w ≡ negation (get_or (literals_of e.trail) e.watches.qhead d)
    → AllByRecursion (IsTrueEntry slots (literals_of e.trail)) (row_at e.watches.rows (index_of w))
    → Fits e slots → Fits (with_progress e e.trail e.watches.stable_qhead (e.watches.qhead + 1))
    slots
fits_advance e slots w d lt at row fits = record {
  attached = λ r h. let f = fits.attached r h in (
    f.0,
    f.1,
    (
      f.2.0,
      attachment_advance e slots w d r f.0 (attachment_in e.watches.table r) refl
          fits lt at row f.1 f.2.1,
    ),
  );
  reasons = fits.reasons;
  reasons_attached = fits.reasons_attached;
  small = fits.small;
  rows = fits.rows;
  waiting = fits.waiting;
  blockers = fits.blockers;
}

abbrev IsDone : List Literal → List Literal → Type 0
IsDone c A = (IsFalseUnder c A → ⊥) × ((l : Literal) → IsUnit c A l → ⊥)

-- a true clause is neither false nor unit
true_done : (c A : List Literal) → NoTautology A → HasTrue c A → IsDone c A
true_done c A apart h = (
  (λ f. apart h.0 h.2 (all_at (λ l. contains_literal (negation l) A ≡ true) c h.0 f h.1)),
  (λ l u. elim (all_at (λ k. (k ≡ l) ⊎ (contains_literal (negation k) A ≡ true)) c h.0 u.others
      h.1) [
        | inl same ↦ both_ways _ u.not_true (subst (λ z. contains_literal z A ≡ true) same h.2)
        | inr contrary ↦ apart h.0 h.2 contrary
      ]),
)

-- neither is one with two literals that are not false
two_done : (c A : List Literal) (one other : Literal) → one ≢ other → contains_literal one c ≡ true
    → contains_literal other c ≡ true
    → contains_literal (negation one) A ≡ false → contains_literal (negation other) A ≡ false
    → IsDone c A
two_done c A one other ne m n a b = (
  (λ f. both_ways _ a (all_at (λ l. contains_literal (negation l) A ≡ true) c one f m)),
  (λ l u.
      elim (all_at (λ k. (k ≡ l) ⊎ (contains_literal (negation k) A ≡ true)) c one u.others m) [
        | inr contrary ↦ both_ways _ a contrary
        | inl first ↦ elim (all_at (λ k. (k ≡ l) ⊎ (contains_literal (negation k) A ≡ true)) c other
            u.others n) [
              | inr contrary ↦ both_ways _ b contrary
              | inl second ↦ ne (first ∙ sym second)
            ]
      ]),
)

covered_now : (e : EngineState) (c : List Literal) (x : Literal) → e.watches.qhead ≡ length e.trail
    → IsWatch e c x → contains_literal (negation x) (literals_of e.trail) ≡ true
    → HasTrue c (literals_of e.trail)
covered_now e c x all h m =
    h.covered (subst (λ X. contains_literal (negation x) X ≡ true)
    (sym (take_all e.watches.qhead (literals_of e.trail)
    (let long = length-map e.trail (λ (a : Assigned). a.literal) in omega arith))) m)

attachment_done : (e : EngineState) (slots : Slots) (r : ℕ) (c : List Literal) (p : Attachment)
    → p ≡ attachment_in e.watches.table r → NoTautology (literals_of e.trail)
    → e.watches.qhead ≡ length e.trail
    → AreTrueWaiting slots e → clause_at slots r ≡ Some c → FitsAttachment e c p
    → IsDone c (literals_of e.trail)
attachment_done e slots r c Detached same apart all waiting live h = absurd h
attachment_done e slots r c Waiting same apart all waiting live h =
    true_done c (literals_of e.trail) apart (waiting r c (sym same) live)
attachment_done e slots r c Satisfied same apart all waiting live h =
    let p = kept_prefix 0 e.trail in
    true_done c (literals_of e.trail) apart
    (true_more c (literals_of (kept_to 0 e.trail)) (literals_of e.trail)
    (λ l m. subst (λ X. contains_literal l X ≡ true)
    (sym (ap literals_of p.1 ∙ literals-append (kept_to 0 e.trail) p.0))
    (contains_front l (literals_of (kept_to 0 e.trail)) (literals_of p.0) m)) h)
attachment_done e slots r c (Watching one other rest) same apart all waiting live h =
    let A = literals_of e.trail in
    elim (cases_Bool (contains_literal (negation one) A)) as (λ _. IsDone c A) [
      | inl m ↦ true_done c A apart (covered_now e c one all h.1 m)
      | inr a ↦ elim (cases_Bool (contains_literal (negation other) A)) as (λ _. IsDone c A) [
        | inl m ↦ true_done c A apart (covered_now e c other all h.2 m)
        | inr b ↦ two_done c A one other h.0 h.1.member h.2.member a b
      ]
    ]

pub complete : (e : EngineState) (slots : Slots) → e.watches.qhead ≡ length e.trail
    → AreTrueWaiting slots e → Fits e slots → IsAttachedFixpoint slots (is_attached e) e.trail
complete e slots all waiting fits = λ r c attached live.
    let f = fits.attached r attached in
    let same : f.0 ≡ c = cc (f.1, live) in
    subst (λ x. IsDone x (literals_of e.trail)) same
    (attachment_done e slots r f.0 (attachment_in e.watches.table r) refl
    (no_tautology (clause_at slots) e.trail fits.reasons) all waiting f.1 f.2.1)

pub grown_at : (T U more : List Assigned) (p q : ℕ) (d w : Literal) → U ≡ T ++ more → q ≡ p
    → p < length T → w ≡ negation (get_or (literals_of T) p d)
    → w ≡ negation (get_or (literals_of U) q d)
grown_at T U more p q d w e f lt at =
    at ∙ ap negation (sym (get_or_append_left (literals_of T) (literals_of more) d p
    (let long = length-map T (λ (a : Assigned). a.literal) in omega arith))
    ∙ ap (λ X. get_or X p d) (sym (literals-append T more))
    ∙ ap (λ X. get_or (literals_of X) p d) (sym e) ∙ ap (λ k. get_or (literals_of U) k d) (sym f))
