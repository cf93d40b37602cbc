-- The list of clauses that wait.
use Rattle.std.proofs.Common.{◌≡◌, ℕ, zero, suc, ◌+◌, ◌<◌, ◌≤◌, true, List, [], ◌∷◌, ◌++◌, take}
use Rattle.std.proofs.Common.{length, get_or, filter, Some, inl, inr, refl, sym, ◌∙◌, ap, subst}
use Rattle.std.specs.Prelude.{Contains, slice_get}
use Rattle.std.proofs.lemmas.List.{take_more, take_all}
use Rattle.std.proofs.lemmas.List.Elements.{Contains-push_cases}
use Rattle.cnf.specs.Clause.{contains_literal}
use Rattle.cnf.proofs.Laws.{contains_front}
use Rattle.clauses.specs.Slots.{Slots}
use Rattle.propagate_watches.specs.declared.table.Attachment.TheVariants.{Waiting}
use Rattle.propagate_watches.specs.Table.{attachment_in}
use Rattle.propagate_trail.specs.Trail.{literals_of}
use Rattle.propagate.specs.Watches.{EngineState}
use Rattle.propagate.specs.Fits.{Fits}
use Rattle.propagate.specs.Steps.{Continues, IsTrueWaiting, AreTrueWaiting, is_waiting}
use Rattle.propagate_trail.proofs.Laws.{literals-append}
use Rattle.propagate.proofs.Fitting.{true_more}
use Rattle.propagate.proofs.Attachments.{with_watches, attachment_same}
use Rattle.propagate.proofs.Attaching.{Contains-filter}

pub waiting_more : (slots : Slots) (e f : EngineState) (r : ℕ) → Continues e f
    → IsTrueWaiting slots e r → IsTrueWaiting slots f r
waiting_more slots e f r g h c p live =
    true_more c (literals_of e.trail) (literals_of f.trail)
    (λ l m. subst (λ X. contains_literal l X ≡ true)
    (sym (ap literals_of g.grown ∙ literals-append e.trail g.more))
    (contains_front l (literals_of e.trail) (literals_of g.more) m))
    (h c (g.waiting r p) live)

got_number : (w : List ℕ) (k : ℕ) (x : ℕ) → slice_get w k ≡ Some x → get_or w k x ≡ x
got_number [] k x e = refl
got_number (y ∷ w) zero x e = (cc)
got_number (y ∷ w) (suc k) x e = got_number w k x e

-- what holds of the first clauses of the list and of the next
pub seen_next : (P : ℕ → Type 0) (w : List ℕ) (at x : ℕ) → at < length w → slice_get w at ≡ Some x
    → P x → ((r : ℕ) → Contains (take at w) r → P r) → (r : ℕ) → Contains (take (at + 1) w) r → P r
seen_next P w at x lt got here before r h =
    let shape : take (at + 1) w ≡ take at w ++ x ∷ [] =
    take_more w at x lt ∙ ap (λ y. take at w ++ y ∷ []) (got_number w at x got) in
    elim (Contains-push_cases (take at w) x r (subst (λ z. Contains z r) shape h)) as (λ _. P r) [
      | inl earlier ↦ before r earlier
      | inr is ↦ subst P is here
    ]

pub seen_more : (slots : Slots) (e f : EngineState) (w v : List ℕ) (at x : ℕ) → v ≡ w
    → at < length w → slice_get v at ≡ Some x → Continues e f
    → ((r : ℕ) → Contains (take at w) r → IsTrueWaiting slots e r) → IsTrueWaiting slots f x
    → (r : ℕ) → Contains (take (at + 1) w) r → IsTrueWaiting slots f r
seen_more slots e f w v at x same lt got g seen here =
    seen_next (IsTrueWaiting slots f) w at x lt (ap (λ z. slice_get z at) (sym same) ∙ got) here
    (λ r h. waiting_more slots e f r g (seen r h))

pub all_seen : (slots : Slots) (e : EngineState) (w : List ℕ) (n : ℕ) → Fits e slots
    → e.watches.waiting ≡ w → length w ≤ n
    → ((r : ℕ) → Contains (take n w) r → IsTrueWaiting slots e r) → AreTrueWaiting slots e
all_seen slots e w n fits same le seen r c p live =
    seen r (subst (λ z. Contains z r) (same ∙ sym (take_all n w le)) (fits.waiting r p)) c p live

-- the list may change where it still has the clauses that wait
pub fits_listed : (e : EngineState) (slots : Slots) (w : List ℕ) → Fits e slots
    → ((r : ℕ) → attachment_in e.watches.table r ≡ Waiting → Contains w r)
    → Fits (with_watches e e.watches.table e.watches.rows w) slots
fits_listed e slots w fits listed =
    record {
      attached = λ r h. let f = fits.attached r h in (
        f.0,
        f.1,
        (
          f.2.0,
          attachment_same e e.watches.table e.watches.rows w f.0
              (attachment_in e.watches.table r) f.2.1,
        ),
      );
      reasons = fits.reasons;
      reasons_attached = fits.reasons_attached;
      small = fits.small;
      rows = fits.rows;
      waiting = listed;
      blockers = fits.blockers;
    }

pub fits_waiting : (e : EngineState) (slots : Slots) → Fits e slots
    → Fits (with_watches e e.watches.table e.watches.rows
    (filter (λ r. is_waiting (attachment_in e.watches.table r)) e.watches.waiting)) slots
fits_waiting e slots fits =
    fits_listed e slots (filter (λ r. is_waiting (attachment_in e.watches.table r))
    e.watches.waiting) fits
    (λ r h. Contains-filter (λ x. is_waiting (attachment_in e.watches.table x)) e.watches.waiting
    r (ap is_waiting h) (fits.waiting r h))
