-- Clauses that are attached and detached.
use Rattle.std.proofs.Common.{◌≡◌, ◌≢◌, ℕ, zero, suc, ◌+◌, ◌-◌, ◌<◌, Bool, true, false, not, List}
use Rattle.std.proofs.Common.{[], ◌∷◌, ◌++◌, length, get_or, set, replicate, filter, Some, ◌⊎◌, inl}
use Rattle.std.proofs.Common.{inr, refl, sym, ◌∙◌, ap, subst, arith}
use Rattle.std.specs.Prelude.{All, Contains, ◌==◌}
use Rattle.std.specs.List.{AllByRecursion}
use Rattle.std.proofs.lemmas.Bool.{cases_eq, cases_lt, cases_Bool, false≢true, true≢false, eqb-true}
use Rattle.std.proofs.lemmas.Bool.{eqb-false, ne_eqb, not_from_false}
use Rattle.std.proofs.lemmas.List.{get_or-set_same, get_or-set_other, get_or_append_left}
use Rattle.std.proofs.lemmas.List.{get_or-append_right, get_or_past, length-append, length-set}
use Rattle.std.proofs.lemmas.List.{length-replicate}
use Rattle.std.proofs.lemmas.List.Elements.{Contains-append_left, Contains-push}
use Rattle.cnf.specs.Literal.{Literal, index_of}
use Rattle.clauses.specs.Slots.{Slots, clause_at}
use Rattle.propagate_watches.specs.declared.pool.WatchEntry.{WatchEntry}
use Rattle.propagate_watches.specs.declared.table.Attachment.{Attachment}
use Rattle.propagate_watches.specs.declared.table.Rest.{Rest}
use Rattle.propagate_watches.specs.declared.table.Attachment.TheVariants.{Detached, Waiting}
use Rattle.propagate_watches.specs.declared.table.Attachment.TheVariants.{Satisfied}
use Rattle.propagate_watches.specs.declared.table.Attachment.TheVariants.{Watching}
use Rattle.propagate_watches.specs.Pool.{row_at, with_row}
use Rattle.propagate_watches.specs.Table.{is_kept, IsWatching, attachment_in, grown_table}
use Rattle.propagate_watches.proofs.Laws.{attachment_set_other, attachment_set_same}
use Rattle.propagate_trail.specs.Trail.{Assigned}
use Rattle.propagate.specs.Watches.{EngineState, IsEngine, IsVariable, is_attached, watches_at}
use Rattle.propagate.specs.Watches.{count_in, SetsAttached}
use Rattle.propagate.specs.Fits.{Fits, FitsAttachment, IsWithin, HasBlocker}
use Rattle.propagate.proofs.Attachments.{with_watches, fits_attachment, blockers_kept}
use Rattle.propagate.proofs.Attachments.{blockers_gone, count-cons, one-other}

past : (k v : ℕ) → get_or (replicate k Detached) v Detached ≡ Detached
past zero v = refl
past (suc k) zero = refl
past (suc k) (suc v) = past k v

-- a table is as long as it must be
pub attachment_grown : (t : List Attachment) (r q : ℕ)
    → attachment_in (grown_table t r) q ≡ attachment_in t q
attachment_grown t r q = elim (cases_lt q (length t)) [
  | inl lt ↦ get_or_append_left t (replicate (r + 1 - length t) Detached) Detached q lt
  | inr le ↦ get_or-append_right t (replicate (r + 1 - length t) Detached) (length t) q Detached
      refl le ∙ past (r + 1 - length t) (q - length t) ∙ sym (get_or_past t q Detached le)
]

pub length-grown : (t : List Attachment) (r : ℕ) → r < length (grown_table t r)
length-grown t r =
    omega (
      arith,
      length-append t (replicate (r + 1 - length t) Detached),
      length-replicate (r + 1 - length t) Detached,
    )

-- a clause with a place in the table is attached by what is put down there
pub sets_kept : (e : EngineState) (r : ℕ) (p : Attachment) (R : List (List WatchEntry)) (w : List ℕ)
    → is_kept p ≡ true
    → SetsAttached e (with_watches e (set (grown_table e.watches.table r) r p) R w) r true
sets_kept e r p R w kept =
    let g = grown_table e.watches.table r in (
      ap is_kept (attachment_set_same g r p (length-grown e.watches.table r)) ∙ kept,
      λ q ne. ap is_kept (attachment_set_other g r q p ne
          ∙ attachment_grown e.watches.table r q),
    )

detached_at : (p : Attachment) → is_kept p ≡ false → p ≡ Detached
detached_at Detached e = refl
detached_at Waiting e = absurd (true≢false e)
detached_at Satisfied e = absurd (true≢false e)
detached_at (Watching one other rest) e = absurd (true≢false e)

pub fits_attach : (e : EngineState) (slots : Slots) (r : ℕ) (c : List Literal)
    → is_attached e r ≡ false → clause_at slots r ≡ Some c → IsWithin e.variables c
    → Fits e slots → Fits (with_watches e (set (grown_table e.watches.table r) r Waiting)
    e.watches.rows (e.watches.waiting ++ r ∷ [])) slots
fits_attach e slots r c out live within fits =
    let g = grown_table e.watches.table r in
    let t = set g r Waiting in
    let R = e.watches.rows in
    let w = e.watches.waiting ++ r ∷ [] in
    let here : attachment_in t r ≡ Waiting =
    attachment_set_same g r Waiting (length-grown e.watches.table r) in
    let kept : is_kept (attachment_in t r) ≡ true = ap is_kept here in
    let other : (q : ℕ) → q ≢ r → attachment_in t q ≡ attachment_in e.watches.table q =
    λ q ne. attachment_set_other g r q Waiting ne ∙ attachment_grown e.watches.table r q in
    let was : attachment_in e.watches.table r ≡ Detached =
    detached_at (attachment_in e.watches.table r) out in
    fits_attachment e slots r t R w fits other
    (λ k. (c, live, (within, subst (λ x. FitsAttachment e c x) (sym here) tt)))
    (inl kept)
    (λ i q. elim (cases_eq q r) [
      | inl same ↦ fits.rows i q ∙ ap (λ x. watches_at (attachment_in e.watches.table x) i) same
          ∙ ap (λ x. watches_at x i) was ∙ sym (ap (λ x. watches_at (attachment_in t x) i) same
          ∙ ap (λ x. watches_at x i) here)
      | inr ne ↦ fits.rows i q ∙ sym (ap (λ x. watches_at x i) (other q ne))
    ])
    (λ q h. elim (cases_eq q r) [
      | inl same ↦ subst (λ x. Contains w x) (sym same) (Contains-push e.watches.waiting r)
      | inr ne ↦ Contains-append_left e.watches.waiting (r ∷ []) q
          (fits.waiting q (sym (other q ne) ∙ h))
    ])
    (λ i. blockers_kept e slots r t R w (row_at R i) other kept (fits.blockers i))

-- the clauses but one
abbrev pub without : ℕ → List ℕ → List ℕ
without r xs = filter (λ x. not (x == r)) xs

Contains-cons : (x y : ℕ) (xs : List ℕ) → Contains (y ∷ xs) x → (y ≡ x) ⊎ Contains xs x
Contains-cons x y xs (zero, lt, h) = inl h
Contains-cons x y xs (suc k, lt, h) = inr (k, omega arith, h)

Contains-after : (x y : ℕ) (xs : List ℕ) → Contains xs x → Contains (y ∷ xs) x
Contains-after x y xs h = (suc h.0, omega (arith, h.1), h.2)

pub Contains-filter : (p : ℕ → Bool) (xs : List ℕ) (x : ℕ) → p x ≡ true → Contains xs x
    → Contains (filter p xs) x
Contains-filter p [] x e h = absurd (omega (arith, h.1))
Contains-filter p (y ∷ xs) x e h = elim (cases_Bool (p y)) [
  | inl keep ↦ rw keep (elim (Contains-cons x y xs h) [
    | inl same ↦ (zero, omega arith, same)
    | inr later ↦ Contains-after x y (filter p xs) (Contains-filter p xs x e later)
  ])
  | inr drop ↦ rw drop (elim (Contains-cons x y xs h) [
    | inl same ↦ absurd (true≢false (sym e ∙ ap p (sym same) ∙ drop))
    | inr later ↦ Contains-filter p xs x e later
  ])
]

abbrev pub without_clause : ℕ → List WatchEntry → List WatchEntry
without_clause r row = filter (λ x. not (x.reference == r)) row

count_without : (r : ℕ) (row : List WatchEntry) → count_in r (without_clause r row) ≡ 0
count_without r [] = refl
count_without r (x ∷ row) = elim (cases_Bool (x.reference == r)) [
  | inl same ↦ rw same (count_without r row)
  | inr ne ↦ rw ne (count-cons r x (without_clause r row)
      ∙ omega (arith, one-other x.reference r (eqb-false x.reference r ne), count_without r row))
]

count_others : (r q : ℕ) (row : List WatchEntry) → q ≢ r
    → count_in q (without_clause r row) ≡ count_in q row
count_others r q [] h = refl
count_others r q (x ∷ row) h = elim (cases_Bool (x.reference == r)) [
  | inl same ↦ rw same (count_others r q row h
      ∙ omega (
        arith,
        count-cons q x row,
        one-other x.reference q (λ e. h (sym e ∙ eqb-true x.reference r same)),
      ))
  | inr ne ↦ rw ne (omega (
    arith,
    count-cons q x (without_clause r row),
    count-cons q x row,
    count_others r q row h,
  ))
]

all_filter : {X : Type 0} (P : X → Type 0) (p : X → Bool) (xs : List X) → AllByRecursion P xs
    → AllByRecursion P (filter p xs)
all_filter P p [] h = tt
all_filter P p (x ∷ xs) h = elim (cases_Bool (p x)) [
  | inl e ↦ rw e (h.0, all_filter P p xs h.1)
  | inr e ↦ rw e (all_filter P p xs h.1)
]

abbrev pub cleared : List (List WatchEntry) → ℕ → ℕ → List (List WatchEntry)
cleared R i r = with_row R i (without_clause r (row_at R i))

pub cleared_others : (R : List (List WatchEntry)) (i r q k : ℕ) → i < length R → q ≢ r
    → count_in q (row_at (cleared R i r) k) ≡ count_in q (row_at R k)
cleared_others R i r q k lt h = elim (cases_eq k i) [
  | inl same ↦ rw same (ap (count_in q) (get_or-set_same R i (without_clause r (row_at R i)) [] lt)
      ∙ count_others r q (row_at R i) h)
  | inr ne ↦ ap (count_in q) (get_or-set_other R i k (without_clause r (row_at R i)) [] ne)
]

pub cleared_here : (R : List (List WatchEntry)) (i r : ℕ) → i < length R
    → count_in r (row_at (cleared R i r) i) ≡ 0
cleared_here R i r lt = ap (count_in r) (get_or-set_same R i (without_clause r (row_at R i)) [] lt)
    ∙ count_without r (row_at R i)

pub cleared_elsewhere : (R : List (List WatchEntry)) (i r k : ℕ) → k ≢ i
    → count_in r (row_at (cleared R i r) k) ≡ count_in r (row_at R k)
cleared_elsewhere R i r k ne =
    ap (count_in r) (get_or-set_other R i k (without_clause r (row_at R i)) [] ne)

pub cleared_all : (P : WatchEntry → Type 0) (R : List (List WatchEntry)) (i r : ℕ) → i < length R
    → ((k : ℕ) → AllByRecursion P (row_at R k)) → (k : ℕ)
    → AllByRecursion P (row_at (cleared R i r) k)
cleared_all P R i r lt h k = elim (cases_eq k i) [
  | inl same ↦ subst (λ x. AllByRecursion P (row_at (cleared R i r) x)) (sym same)
      (subst (AllByRecursion P) (sym (get_or-set_same R i (without_clause r (row_at R i)) [] lt))
      (all_filter P (λ x. not (x.reference == r)) (row_at R i) (h i)))
  | inr ne ↦ subst (AllByRecursion P)
      (sym (get_or-set_other R i k (without_clause r (row_at R i)) [] ne)) (h k)
]

pub fits_detach : (e : EngineState) (slots : Slots) (r : ℕ) (R : List (List WatchEntry))
    (w : List ℕ)
    → r < length e.watches.table → All (λ (a : Assigned). a.reason ≡ Some r → ⊥) e.trail
    → ((i q : ℕ) → q ≢ r → count_in q (row_at R i) ≡ count_in q (row_at e.watches.rows i))
    → ((i : ℕ) → count_in r (row_at R i) ≡ 0)
    → ((i : ℕ) → AllByRecursion (HasBlocker e slots) (row_at R i))
    → ((q : ℕ) → q ≢ r → Contains e.watches.waiting q → Contains w q)
    → Fits e slots → Fits (with_watches e (set e.watches.table r Detached) R w) slots
fits_detach e slots r R w lt none others gone blockers waiting fits =
    let t = set e.watches.table r Detached in
    let here : attachment_in t r ≡ Detached = attachment_set_same e.watches.table r Detached lt in
    let other : (q : ℕ) → q ≢ r → attachment_in t q ≡ attachment_in e.watches.table q =
    λ q ne. attachment_set_other e.watches.table r q Detached ne in
    fits_attachment e slots r t R w fits other
    (λ k. absurd (false≢true (sym (ap is_kept here) ∙ k)))
    (inr none)
    (λ i q. elim (cases_eq q r) [
      | inl same ↦ ap (λ x. count_in x (row_at R i)) same ∙ gone i
          ∙ sym (ap (λ x. watches_at (attachment_in t x) i) same ∙ ap (λ x. watches_at x i) here)
      | inr ne ↦ others i q ne ∙ fits.rows i q ∙ sym (ap (λ x. watches_at x i) (other q ne))
    ])
    (λ q h. elim (cases_eq q r) [
      | inl same ↦ absurd (let h' = sym (ap (attachment_in t) same ∙ here) ∙ h in cc)
      | inr ne ↦ waiting q ne (fits.waiting q (sym (other q ne) ∙ h))
    ])
    (λ i. blockers_gone e slots r t R w (row_at R i) other (gone i) (blockers i))

-- a clause of two rows leaves both
pub fits_detach_watching : (e : EngineState) (slots : Slots) (r : ℕ) (one other : Literal)
    → IsEngine e → r < length e.watches.table
    → All (λ (a : Assigned). a.reason ≡ Some r → ⊥) e.trail
    → IsWatching (attachment_in e.watches.table r) one other → index_of one < length e.watches.rows
    → index_of other < length e.watches.rows
    → Fits e slots → Fits (with_watches e (set e.watches.table r Detached)
    (cleared (cleared e.watches.rows (index_of one) r) (index_of other) r) e.watches.waiting)
    slots
fits_detach_watching e slots r one other inv lt none at h g fits =
    let R = e.watches.rows in
    let i = index_of one in
    let j = index_of other in
    let Rj = cleared R i r in
    let g1 : j < length Rj = omega (arith, length-set R i (without_clause r (row_at R i))) in
    fits_detach e slots r (cleared Rj j r) e.watches.waiting lt none
    (λ k q ne. cleared_others Rj j r q k g1 ne ∙ cleared_others R i r q k h ne)
    (λ k. elim (cases_eq k j) [
      | inl same ↦ ap (λ x. count_in r (row_at (cleared Rj j r) x)) same ∙ cleared_here Rj j r g1
      | inr ne ↦ cleared_elsewhere Rj j r k ne ∙ elim (cases_eq k i) [
        | inl same ↦ ap (λ x. count_in r (row_at Rj x)) same ∙ cleared_here R i r h
        | inr ne' ↦ cleared_elsewhere R i r k ne' ∙ fits.rows k r ∙ ap (λ x. watches_at x k) at
            ∙ omega (arith, one-other i k (λ x. ne' (sym x)), one-other j k (λ x. ne (sym x)))
      ]
    ])
    (cleared_all (HasBlocker e slots) Rj j r g1
    (cleared_all (HasBlocker e slots) R i r h fits.blockers))
    (λ q ne c. c) fits

-- a clause without rows
pub fits_detach_other : (e : EngineState) (slots : Slots) (r : ℕ) (w : List ℕ)
    → r < length e.watches.table → All (λ (a : Assigned). a.reason ≡ Some r → ⊥) e.trail
    → ((i : ℕ) → watches_at (attachment_in e.watches.table r) i ≡ 0)
    → ((q : ℕ) → q ≢ r → Contains e.watches.waiting q → Contains w q)
    → Fits e slots → Fits (with_watches e (set e.watches.table r Detached) e.watches.rows w) slots
fits_detach_other e slots r w lt none rows waiting fits =
    fits_detach e slots r e.watches.rows w lt none (λ i q ne. refl) (λ i. fits.rows i r
    ∙ rows i) fits.blockers waiting fits

pub without_kept : (r q : ℕ) (xs : List ℕ) → q ≢ r → Contains xs q → Contains (without r xs) q
without_kept r q xs ne h =
    Contains-filter (λ x. not (x == r)) xs q (not_from_false (q == r) (ne_eqb q r ne)) h

pub watching_is : (p : Attachment) (one other : Literal) (rest : Rest) → p ≡ Watching one other rest
    → IsWatching p one other
watching_is p one other rest e = subst (λ x. IsWatching x one other) (sym e) refl

-- the table of an engine may change so
pub engine_change : (e : EngineState) (t : List Attachment) (R : List (List WatchEntry))
    (w : List ℕ) → IsEngine e → length R ≡ length e.watches.rows
    → ((r : ℕ) (one other : Literal) → IsWatching (attachment_in t r) one other
    → IsVariable e.variables one × IsVariable e.variables other)
    → IsEngine (with_watches e t R w)
engine_change e t R w inv long watching =
    record {
      rows = long ∙ inv.rows;
      watching = watching;
      stable_qhead = inv.stable_qhead;
      qhead = inv.qhead;
    }

pub engine_set : (e : EngineState) (r : ℕ) (p : Attachment) (R : List (List WatchEntry))
    (w : List ℕ) → IsEngine e → length R ≡ length e.watches.rows → r < length e.watches.table
    → ((one other : Literal) → IsWatching p one other → IsVariable e.variables one
    × IsVariable e.variables other)
    → IsEngine (with_watches e (set e.watches.table r p) R w)
engine_set e r p R w inv long lt h = engine_change e (set e.watches.table r p) R w inv long
    (λ q one other at. elim (cases_eq q r) [
      | inl same ↦ h one other
          (subst (λ x. IsWatching x one other) (ap (attachment_in (set e.watches.table r p)) same
          ∙ attachment_set_same e.watches.table r p lt) at)
      | inr ne ↦ inv.watching q one other
          (subst (λ x. IsWatching x one other) (attachment_set_other e.watches.table r q p ne) at)
    ])

pub kept_within : (t : List Attachment) (r : ℕ) → is_kept (attachment_in t r) ≡ true → r < length t
kept_within t r h = elim (cases_lt r (length t)) [
  | inl lt ↦ lt
  | inr le ↦ absurd (false≢true (sym (ap is_kept (get_or_past t r Detached le)) ∙ h))
]
