-- An engine goes on to fit its store where its trail changes.
use Rattle.std.proofs.Common.{◌≡◌, ℕ, ◌<◌, ◌≤◌, true, List, [], ◌∷◌, ◌++◌, take, length, ◌⊎◌, inl}
use Rattle.std.proofs.Common.{inr, sym, ◌∙◌, ap, subst, arith}
use Rattle.std.specs.Prelude.{All, IfSome}
use Rattle.std.proofs.lemmas.Bool.{cases_lt}
use Rattle.std.proofs.lemmas.List.{take_all, take-append-le, length-map, map_push}
use Rattle.std.proofs.lemmas.List.{get_or_append_left, length-append}
use Rattle.std.proofs.lemmas.List.Elements.{All-push}
use Rattle.cnf.specs.Literal.{Literal, negation}
use Rattle.cnf.specs.Clause.{contains_literal}
use Rattle.cnf.proofs.Laws.{contains_front}
use Rattle.clauses.specs.Slots.{Slots, clause_at}
use Rattle.clauses.specs.Within.{Within}
use Rattle.propagate_watches.specs.declared.table.Attachment.{Attachment}
use Rattle.propagate_watches.specs.declared.table.Attachment.TheVariants.{Detached, Waiting}
use Rattle.propagate_watches.specs.declared.table.Attachment.TheVariants.{Satisfied}
use Rattle.propagate_watches.specs.declared.table.Attachment.TheVariants.{Watching}
use Rattle.propagate_watches.specs.Table.{attachment_in}
use Rattle.propagate_trail.specs.Trail.{Assigned, literals_of, depth_of, kept_to, HasReasons}
use Rattle.propagate_trail.specs.Trail.{IsJustified}
use Rattle.propagate.specs.Watches.{EngineState, is_attached}
use Rattle.propagate.specs.Fits.{Fits, FitsAttachment, HasTrue, IsCovered, StaysCovered, IsWatch}
use Rattle.propagate_trail.proofs.Laws.{kept_all, kept_push, depth_grows}
use Rattle.propagate_trail.proofs.Laws.{contains_take_more, kept_prefix, kept_kept, kept_above}
use Rattle.propagate_trail.proofs.Laws.{reasons_front, reasons_push}

pub true_more : (c A B : List Literal) → Within A B → HasTrue c A → HasTrue c B
true_more c A B f h = (h.0, h.1, f h.0 h.2)

abbrev pub with_progress : EngineState → List Assigned → ℕ → ℕ → EngineState
with_progress e trail stable_qhead qhead =
    record e {
      trail = trail;
      watches = record e.watches {
        stable_qhead = stable_qhead;
        qhead = qhead;
      };
    }

attachment_change : (e : EngineState) (T : List Assigned) (s p : ℕ) (c : List Literal)
    (attachment : Attachment)
    → ((w : Literal) → IsWatch e c w → IsWatch (with_progress e T s p) c w)
    → (HasTrue c (literals_of (kept_to 0 e.trail)) → HasTrue c (literals_of (kept_to 0 T)))
    → FitsAttachment e c attachment → FitsAttachment (with_progress e T s p) c attachment
attachment_change e T s p c Detached f g h = h
attachment_change e T s p c Waiting f g h = h
attachment_change e T s p c Satisfied f g h = g h
attachment_change e T s p c (Watching one other rest) f g h = (h.0, f one h.1, f other h.2, h.3)

pub fits_change : (e : EngineState) (slots : Slots) (T : List Assigned) (s p : ℕ) → Fits e slots
    → ((c : List Literal) (w : Literal) → IsWatch e c w → IsWatch (with_progress e T s p) c w)
    → ((c : List Literal) → HasTrue c (literals_of (kept_to 0 e.trail))
    → HasTrue c (literals_of (kept_to 0 T)))
    → HasReasons (clause_at slots) [] T
    → All (λ a. IfSome a.reason (λ r. is_attached e r ≡ true)) T
    → All (λ a. (0 < a.literal.variable) × (a.literal.variable ≤ e.variables)) T
    → Fits (with_progress e T s p) slots
fits_change e slots T s p fits f g reasons reasons_attached small = record {
  attached = λ r h. let w = fits.attached r h in (
    w.0,
    w.1,
    (
      w.2.0,
      attachment_change e T s p w.0 (attachment_in e.watches.table r) (f w.0)
          (g w.0) w.2.1,
    ),
  );
  reasons = reasons;
  reasons_attached = reasons_attached;
  small = small;
  rows = fits.rows;
  waiting = fits.waiting;
  blockers = fits.blockers;
}

-- what was looked at stays so, where the rest of the trail is of the current level
pub fits_settled : (e : EngineState) (slots : Slots) → e.watches.stable_qhead ≤ e.watches.qhead
    → ((to : ℕ) → to < depth_of e.trail → length (kept_to to e.trail) ≤ e.watches.stable_qhead)
    → Fits e slots → Fits (with_progress e e.trail e.watches.qhead e.watches.qhead) slots
fits_settled e slots le short fits =
    let p = e.watches.qhead in
    let s = e.watches.stable_qhead in
    let T = e.trail in
    let stays : (c : List Literal) (w : Literal) → IsWatch e c w → (to : ℕ)
    → IsCovered (literals_of (kept_to to T)) p c w =
    λ c w h to. elim (cases_lt to (depth_of T))
    as (λ _. IsCovered (literals_of (kept_to to T)) p c w) [
      | inl below ↦
          let K = literals_of (kept_to to T) in
          let lk = short to below in
          let long = length-map (kept_to to T) (λ (a : Assigned). a.literal) in
          let e1 : take p K ≡ take s K = take_all p K (omega arith)
          ∙ sym (take_all s K (omega arith)) in
          λ m. h.stays to (subst (λ X. contains_literal (negation w) X ≡ true) e1 m)
      | inr above ↦ subst (λ X. IsCovered (literals_of X) p c w)
          (sym (kept_all to T above)) h.covered
    ] in
    fits_change e slots T p p fits
    (λ c w h. record { member = h.member; covered = h.covered; stays = stays c w h })
    (λ c h. h) fits.reasons fits.reasons_attached fits.small

-- one more literal
kept_cases : (to : ℕ) (T : List Assigned) (a : Assigned)
    → (kept_to to (T ++ a ∷ []) ≡ kept_to to T)
    ⊎ ((kept_to to (T ++ a ∷ []) ≡ T ++ a ∷ []) × (kept_to to T ≡ T))
kept_cases to T a = elim (cases_lt to (depth_of (T ++ a ∷ []))) [
  | inl below ↦ inl (kept_push to T a below)
  | inr above ↦ inr (
    kept_all to (T ++ a ∷ []) above,
    kept_all to T (omega (arith, depth_grows T a)),
  )
]

pub more_literals : (T : List Assigned) (a : Assigned) (l : Literal)
    → contains_literal l (literals_of T) ≡ true
    → contains_literal l (literals_of (T ++ a ∷ [])) ≡ true
more_literals T a l h =
    subst (λ X. contains_literal l X ≡ true) (sym (map_push (λ (x : Assigned). x.literal) T a))
    (contains_front l (literals_of T) (a.literal ∷ []) h)

covered_more : (T : List Assigned) (a : Assigned) (p : ℕ) (c : List Literal) (w : Literal)
    → p ≤ length T → IsCovered (literals_of T) p c w → IsCovered (literals_of (T ++ a ∷ [])) p c w
covered_more T a p c w le h m =
    let A = literals_of T in
    let e : take p (literals_of (T ++ a ∷ [])) ≡ take p A =
    ap (take p) (map_push (λ (x : Assigned). x.literal) T a)
    ∙ take-append-le p A (a.literal ∷ [])
    (omega (arith, length-map T (λ (x : Assigned). x.literal))) in
    true_more c A (literals_of (T ++ a ∷ [])) (more_literals T a)
    (h (subst (λ X. contains_literal (negation w) X ≡ true) e m))

stays_more : (T : List Assigned) (a : Assigned) (s : ℕ) (c : List Literal) (w : Literal)
    → s ≤ length T → StaysCovered T s c w → StaysCovered (T ++ a ∷ []) s c w
stays_more T a s c w le h to =
    elim (kept_cases to T a) as (λ _. IsCovered (literals_of (kept_to to (T ++ a ∷ []))) s c w) [
      | inl same ↦ subst (λ X. IsCovered (literals_of X) s c w) (sym same) (h to)
      | inr all ↦ subst (λ X. IsCovered (literals_of X) s c w) (sym all.0)
          (covered_more T a s c w le (subst (λ X. IsCovered (literals_of X) s c w) all.1 (h to)))
    ]

kept_more : (T : List Assigned) (a : Assigned) (c : List Literal)
    → HasTrue c (literals_of (kept_to 0 T)) → HasTrue c (literals_of (kept_to 0 (T ++ a ∷ [])))
kept_more T a c h = elim (kept_cases 0 T a) [
  | inl same ↦ subst (λ X. HasTrue c (literals_of X)) (sym same) h
  | inr all ↦ subst (λ X. HasTrue c (literals_of X)) (sym all.0)
      (true_more c (literals_of T) (literals_of (T ++ a ∷ [])) (more_literals T a)
      (subst (λ X. HasTrue c (literals_of X)) all.1 h))
]

pub fits_grow : (e : EngineState) (slots : Slots) (a : Assigned)
    → e.watches.stable_qhead ≤ e.watches.qhead → e.watches.qhead ≤ length e.trail
    → IsJustified (clause_at slots) (literals_of e.trail) a.literal a.reason
    → IfSome a.reason (λ r. is_attached e r ≡ true)
    → (0 < a.literal.variable) × (a.literal.variable ≤ e.variables)
    → Fits e slots → Fits
    (with_progress e (e.trail ++ a ∷ []) e.watches.stable_qhead e.watches.qhead) slots
fits_grow e slots a le within just kept small fits =
    fits_change e slots (e.trail ++ a ∷ []) e.watches.stable_qhead e.watches.qhead fits
    (λ c w h. record {
      member = h.member;
      covered = covered_more e.trail a e.watches.qhead c w within h.covered;
      stays = stays_more e.trail a e.watches.stable_qhead c w (omega arith) h.stays;
    })
    (kept_more e.trail a)
    (reasons_push (clause_at slots) e.trail a fits.reasons just)
    (All-push (λ (x : Assigned). IfSome x.reason (λ r. is_attached e r ≡ true)) e.trail a
    fits.reasons_attached kept)
    (All-push (λ (x : Assigned). (0 < x.literal.variable) × (x.literal.variable ≤ e.variables))
    e.trail a fits.small small)

-- levels are undone
all_front : {X : Type 0} (P : X → Type 0) (xs ys : List X) → All P (xs ++ ys) → All P xs
all_front P xs ys h k d lt =
    subst P (get_or_append_left xs ys d k lt) (h k d (omega (arith, length-append xs ys)))

covered_less : (A : List Literal) (s t : ℕ) (c : List Literal) (w : Literal) → t ≤ s
    → IsCovered A s c w → IsCovered A t c w
covered_less A s t c w le h m = h (contains_take_more (negation w) t s A le m)

pub fits_backtrack : (e : EngineState) (slots : Slots) (level t : ℕ) → t ≤ e.watches.stable_qhead
    → Fits e slots → Fits (with_progress e (kept_to level e.trail) t t) slots
fits_backtrack e slots level t le fits =
    let T = e.trail in
    let K = kept_to level T in
    let w = kept_prefix level T in
    fits_change e slots K t t fits
    (λ c x h. record {
      member = h.member;
      covered = covered_less (literals_of K) e.watches.stable_qhead t c x le (h.stays level);
      stays =
          λ to. elim (cases_lt to level) as (λ _. IsCovered (literals_of (kept_to to K)) t c x) [
            | inl below ↦ subst (λ X. IsCovered (literals_of X) t c x)
                (sym (kept_kept to level T (omega arith)))
                (covered_less (literals_of (kept_to to T)) e.watches.stable_qhead t c x le
                (h.stays to))
            | inr above ↦ subst (λ X. IsCovered (literals_of X) t c x)
                (sym (kept_above to level T above))
                (covered_less (literals_of K) e.watches.stable_qhead t c x le (h.stays level))
          ];
    })
    (λ c h. subst (λ X. HasTrue c (literals_of X)) (sym (kept_kept 0 level T (omega arith))) h)
    (reasons_front (clause_at slots) [] K w.0
    (subst (HasReasons (clause_at slots) []) w.1 fits.reasons))
    (all_front (λ (a : Assigned). IfSome a.reason (λ r. is_attached e r ≡ true)) K w.0
    (subst (All (λ (a : Assigned). IfSome a.reason (λ r. is_attached e r ≡ true))) w.1
    fits.reasons_attached))
    (all_front (λ (a : Assigned). (0 < a.literal.variable) × (a.literal.variable ≤ e.variables)) K
    w.0 (subst (All (λ (a : Assigned). (0 < a.literal.variable)
    × (a.literal.variable ≤ e.variables))) w.1 fits.small))
