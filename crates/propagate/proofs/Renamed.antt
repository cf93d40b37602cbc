-- The engine under the new references of the clauses.
use Rattle.std.proofs.Common.{◌≡◌, ◌≢◌, ℕ, ◌+◌, ◌<◌, ◌≤◌, Bool, true, false, List, [], ◌∷◌, map}
use Rattle.std.proofs.Common.{Option, Some, None, inl, inr, refl, sym, ◌∙◌, ap, subst, arith}
use Rattle.std.specs.Prelude.{IfSome, Contains}
use Rattle.std.specs.List.{AllByRecursion}
use Rattle.std.specs.List.Sorted.{IsStrictlyIncreasing}
use Rattle.std.proofs.lemmas.Bool.{cases_eq, cases_Bool, false≢true}
use Rattle.std.proofs.lemmas.List.{length-map}
use Rattle.std.proofs.lemmas.List.Elements.{recursion_from_All, All-from_recursion, All-map}
use Rattle.std.proofs.Math.ListN.{get_or-map}
use Rattle.cnf.specs.Literal.{Literal}
use Rattle.cnf.specs.Refute.{Clauses}
use Rattle.cnf.proofs.Laws.{all_weaker}
use Rattle.clauses.specs.Slots.{Slots, clause_at, Renaming, renamed, IsRenaming}
use Rattle.clauses.specs.Moved.{named}
use Rattle.clauses.proofs.Laws.{same_origin, same_clause, named_listed}
use Rattle.propagate_watches.specs.declared.pool.WatchEntry.{WatchEntry}
use Rattle.propagate_watches.specs.declared.table.Attachment.{Attachment}
use Rattle.propagate_watches.specs.declared.table.Attachment.TheVariants.{Detached, Waiting}
use Rattle.propagate_watches.specs.declared.table.Attachment.TheVariants.{Satisfied, Watching}
use Rattle.propagate_watches.specs.Pool.{row_at}
use Rattle.propagate_watches.specs.Table.{IsWatching, is_kept, attachment_in}
use Rattle.propagate_watches.specs.Renames.{IsMoved, named_entry, named_rows}
use Rattle.propagate_watches.proofs.Laws.{moved_to, moved_from}
use Rattle.propagate_trail.specs.Trail.{Assigned, TrailState, HasReasons, IsJustified}
use Rattle.propagate.specs.Watches.{EngineState, engine_state, IsEngine, is_attached, watches_at}
use Rattle.propagate.specs.Watches.{count_in, one_at}
use Rattle.propagate.specs.Fits.{FitsAttachment, FitsMoved, MovesAttached, HasBlocker, IsWatch}
use Rattle.propagate_trail.specs.Renames.{named_reason, named_trail}
use Rattle.propagate.proofs.Attachments.{count-cons, one-same, one-other}
use Rattle.propagate_trail.proofs.Laws.{literals_named, kept_named, named_assigned}
use Rattle.propagate.proofs.Facts.{some_weaker}

-- the engine with this table, under new names
abbrev pub engine_named : EngineState → Renaming → List Attachment → EngineState
engine_named e ms table = record {
  variables = e.variables;
  trail = named_trail ms e.trail;
  failed = e.failed;
  watches =
      record {
        table = table;
        rows = named_rows ms e.watches.rows;
        waiting = map (named ms) e.watches.waiting;
        stable_qhead = e.watches.stable_qhead;
        qhead = e.watches.qhead;
      };
}

gone : (p : Attachment) (i : ℕ) → is_kept p ≡ false → watches_at p i ≡ 0
gone Detached i h = refl
gone Waiting i h = absurd (cc)
gone Satisfied i h = absurd (cc)
gone (Watching one other rest) i h = absurd (cc)

justified_named : (before after : Clauses) (ms : Renaming) (A : List Literal) (l : Literal)
    (o : Option ℕ) → IfSome o (λ r. after (named ms r) ≡ before r)
    → IsJustified before A l o → IsJustified after A l (named_reason ms o)
justified_named before after ms A l None same h = h
justified_named before after ms A l (Some r) same h = (h.0, same ∙ h.1, h.2)

reasons_named : (before after : Clauses) (ms : Renaming) (A : List Literal) (T : List Assigned)
    → AllByRecursion (λ a. IfSome a.reason (λ r. after (named ms r) ≡ before r)) T
    → HasReasons before A T → HasReasons after A (named_trail ms T)
reasons_named before after ms A [] same h = h
reasons_named before after ms A (a ∷ T) same h = (
  justified_named before after ms A a.literal a.reason same.0 h.0,
  reasons_named before after ms (a.literal ∷ A) T same.1 h.1,
)

some_named : (P Q : ℕ → Type 0) (ms : Renaming) (o : Option ℕ) → ((r : ℕ) → P r → Q (named ms r))
    → IfSome o P → IfSome (named_reason ms o) Q
some_named P Q ms None f h = h
some_named P Q ms (Some r) f h = f r h

contains_named : (ms : Renaming) (rs : List ℕ) (r : ℕ) → Contains rs r
    → Contains (map (named ms) rs) (named ms r)
contains_named ms rs r h = (
  h.0,
  omega (arith, length-map rs (named ms), h.1),
  get_or-map (named ms) rs h.0 r
      ∙ ap (named ms) h.2,
)

module _ (e : EngineState) (ms : Renaming) (table : List Attachment)
    (old_rise : IsStrictlyIncreasing (map (λ m. m.0) ms))
    (new_rise : IsStrictlyIncreasing (map (λ m. m.1) ms))
    (moved : IsMoved e.watches.table table ms)
    (listed : (r : ℕ) → is_attached e r ≡ true → (q : ℕ) × (renamed ms r ≡ Some q)) where
  new_reference : (r : ℕ) → is_attached e r ≡ true → renamed ms r ≡ Some (named ms r)
  new_reference r h = let z = listed r h in z.1 ∙ ap Some (sym (named_listed ms r z.0 z.1))

  new_attachment : (r : ℕ) → is_attached e r ≡ true
      → attachment_in table (named ms r) ≡ attachment_in e.watches.table r
  new_attachment r h = moved_to e.watches.table table ms r (named ms r) moved (new_reference r h)

  pub attached_named : MovesAttached e (engine_named e ms table) ms
  attached_named = record {
    to = λ r q h. ap is_kept (moved_to e.watches.table table ms r q moved h);
    from = λ q h. moved_from e.watches.table table ms q old_rise moved h;
  }

  -- an attached reference that a name goes back to
  origin : (q : ℕ) → is_kept (attachment_in table q) ≡ true → (r : ℕ) × (renamed ms r ≡ Some q)
      × (attachment_in table q ≡ attachment_in e.watches.table r) × (is_attached e r ≡ true)
  origin q k =
      let z = moved_from e.watches.table table ms q old_rise moved k in
      let same = moved_to e.watches.table table ms z.0 q moved z.1 in
      (z.0, z.1, same, ap is_kept (sym same) ∙ k)

  pub engine_kept : IsEngine e → IsEngine (engine_named e ms table)
  engine_kept h = record {
    rows = length-map e.watches.rows (map (named_entry ms)) ∙ h.rows;
    watching = λ q one other at. let z = origin q (ap is_kept at) in
        h.watching z.0 one other (subst (λ x. IsWatching x one other) z.2 at);
    stable_qhead = h.stable_qhead;
    qhead = omega (arith, h.qhead, length-map e.trail (named_assigned ms));
  }

  watch_named : (c : List Literal) (w : Literal) → IsWatch e c w
      → IsWatch (engine_named e ms table) c w
  watch_named c w h = record {
    member = h.member;
    covered = rw literals_named h.covered;
    stays = λ level. rw kept_named (h.stays level);
  }

  attachment_named : (c : List Literal) (p : Attachment) → FitsAttachment e c p
      → FitsAttachment (engine_named e ms table) c p
  attachment_named c Detached h = h
  attachment_named c Waiting h = h
  attachment_named c Satisfied h = rw kept_named h
  attachment_named c (Watching one other rest) h =
      (h.0, watch_named c one h.1, watch_named c other h.2, h.3)

  count_kept : (slots : Slots) (r q : ℕ) (row : List WatchEntry) → renamed ms r ≡ Some q
      → AllByRecursion (HasBlocker e slots) row
      → count_in q (map (named_entry ms) row) ≡ count_in r row
  count_kept slots r q [] n h = refl
  count_kept slots r q (w ∷ row) n h =
      let rest = count_kept slots r q row n h.1 in
      let a = new_reference w.reference h.0.1 in
      count-cons q (named_entry ms w) (map (named_entry ms) row)
      ∙ ap (λ k. one_at (named ms w.reference) q + k) rest
      ∙ ap (λ k. k + count_in r row)
      (elim (cases_eq w.reference r) as (λ _. one_at (named ms w.reference) q
      ≡ one_at w.reference r) [
        | inl same ↦ one-same (named ms w.reference) q (ap (named ms) same ∙ named_listed ms r q n)
            ∙ sym (one-same w.reference r same)
        | inr ne ↦ one-other (named ms w.reference) q
            (λ x. ne (same_origin ms w.reference r q new_rise (a ∙ ap Some x) n))
            ∙ sym (one-other w.reference r ne)
      ])
      ∙ sym (count-cons r w row)

  count_gone : (slots : Slots) (q : ℕ) (row : List WatchEntry)
      → is_kept (attachment_in table q) ≡ false
      → AllByRecursion (HasBlocker e slots) row → count_in q (map (named_entry ms) row) ≡ 0
  count_gone slots q [] n h = refl
  count_gone slots q (w ∷ row) n h =
      let rest = count_gone slots q row n h.1 in
      let ne : named ms w.reference ≢ q =
      λ x. false≢true (sym n ∙ ap (λ k. is_kept (attachment_in table k)) (sym x)
      ∙ ap is_kept (new_attachment w.reference h.0.1) ∙ h.0.1) in
      count-cons q (named_entry ms w) (map (named_entry ms) row)
      ∙ omega (arith, rest, one-other (named ms w.reference) q ne)

  row_named : (i : ℕ) → row_at (named_rows ms e.watches.rows) i ≡ map (named_entry ms)
      (row_at e.watches.rows i)
  row_named i = get_or-map (map (named_entry ms)) e.watches.rows i []

  blockers_named : (before after : Slots) (row : List WatchEntry) → IsRenaming before after ms
      → AllByRecursion (HasBlocker e before) row
      → AllByRecursion (HasBlocker (engine_named e ms table) after) (map (named_entry ms) row)
  blockers_named before after [] n h = h
  blockers_named before after (w ∷ row) n h = (
    (
      h.0.0,
      ap is_kept (new_attachment w.reference h.0.1) ∙ h.0.1,
      same_clause before after ms n w.reference (named ms w.reference)
          (new_reference w.reference h.0.1) ∙ h.0.2,
      h.0.3,
    ),
    blockers_named before after row n h.1,
  )

  pub fits_named : FitsMoved e (engine_named e ms table) ms
  fits_named before after n fits = record {
    attached = λ q k.
        let z = origin q k in
        let found = fits.attached z.0 z.3 in (
          found.0,
          same_clause before after ms n z.0 q z.1 ∙ found.1,
          (
            found.2.0,
            subst (FitsAttachment (engine_named e ms table) found.0) (sym z.2)
                (attachment_named found.0 (attachment_in e.watches.table z.0) found.2.1),
          ),
        );
    reasons = reasons_named (clause_at before) (clause_at after) ms [] e.trail
        (all_weaker (λ a. IfSome a.reason (λ r. is_attached e r ≡ true))
        (λ a. IfSome a.reason (λ r. clause_at after (named ms r) ≡ clause_at before r)) e.trail
        (λ a h. some_weaker (λ r. is_attached e r ≡ true)
        (λ r. clause_at after (named ms r) ≡ clause_at before r) a.reason
        (λ r k. same_clause before after ms n r (named ms r) (new_reference r k)) h)
        (recursion_from_All (λ a. IfSome a.reason (λ r. is_attached e r ≡ true)) e.trail
        fits.reasons_attached))
        fits.reasons;
    reasons_attached =
        All-map (λ a. IfSome a.reason (λ r. is_attached (engine_named e ms table) r ≡ true))
        (named_assigned ms) e.trail
        (All-from_recursion
        (λ a. IfSome (named_reason ms a.reason) (λ r. is_attached (engine_named e ms table) r
        ≡ true)) e.trail
        (all_weaker (λ a. IfSome a.reason (λ r. is_attached e r ≡ true))
        (λ a. IfSome (named_reason ms a.reason) (λ r. is_attached (engine_named e ms table) r
        ≡ true)) e.trail
        (λ a h. some_named (λ r. is_attached e r ≡ true)
        (λ r. is_attached (engine_named e ms table) r ≡ true) ms a.reason
        (λ r k. ap is_kept (new_attachment r k) ∙ k) h)
        (recursion_from_All (λ a. IfSome a.reason (λ r. is_attached e r ≡ true)) e.trail
        fits.reasons_attached)));
    small = All-map (λ a. (0 < a.literal.variable) × (a.literal.variable ≤ e.variables))
        (named_assigned ms) e.trail fits.small;
    rows = λ i q. elim (cases_Bool (is_kept (attachment_in table q))) [
      | inl k ↦
          let z = origin q k in
          ap (count_in q) (row_named i) ∙ count_kept before z.0 q (row_at e.watches.rows i) z.1
          (fits.blockers i) ∙ fits.rows i z.0 ∙ ap (λ p. watches_at p i) (sym z.2)
      | inr k ↦ ap (count_in q) (row_named i)
          ∙ count_gone before q (row_at e.watches.rows i) k (fits.blockers i)
          ∙ sym (gone (attachment_in table q) i k)
    ];
    waiting = λ q at.
        let z = origin q (ap is_kept at) in
        subst (Contains (map (named ms) e.watches.waiting)) (named_listed ms z.0 q z.1)
        (contains_named ms e.watches.waiting z.0 (fits.waiting z.0 (sym z.2 ∙ at)));
    blockers =
        λ i. subst (AllByRecursion (HasBlocker (engine_named e ms table) after)) (sym (row_named i))
        (blockers_named before after (row_at e.watches.rows i) n (fits.blockers i));
  }

-- what holds of the renamed engine
pub all_renamed : (now : EngineState) (ms : Renaming) (trail trail' : TrailState)
    (table table' : List Attachment) (rows rows' : List (List WatchEntry))
    (waiting waiting' : List ℕ)
    (stable_qhead qhead : ℕ) (failed : Bool)
    → engine_state trail table rows waiting stable_qhead qhead failed ≡ now
    → trail' ≡ record { variables = trail.variables; assigned = named_trail ms trail.assigned }
    → rows' ≡ named_rows ms rows → waiting' ≡ map (named ms) waiting
    → IsStrictlyIncreasing (map (λ m. m.0) ms) → IsStrictlyIncreasing (map (λ m. m.1) ms)
    → IsMoved table table' ms
    → ((r : ℕ) → is_attached now r ≡ true → (q : ℕ) × (renamed ms r ≡ Some q))
    → (IsEngine (engine_state trail table rows waiting stable_qhead qhead failed)
    → IsEngine (engine_state trail' table' rows' waiting' stable_qhead qhead failed))
    × MovesAttached now (engine_state trail' table' rows' waiting' stable_qhead qhead failed) ms
    × FitsMoved now (engine_state trail' table' rows' waiting' stable_qhead qhead failed) ms
all_renamed now ms trail trail' table table' rows rows' waiting waiting' stable_qhead qhead failed
    view te re we o n m listed =
    let e = engine_state trail table rows waiting stable_qhead qhead failed in
    let l : (r : ℕ) → is_attached e r ≡ true → (q : ℕ) × (renamed ms r ≡ Some q) =
    subst (λ (x : EngineState). (r : ℕ) → is_attached x r ≡ true
    → (q : ℕ) × (renamed ms r ≡ Some q)) (sym view) listed
    in
    let shape : engine_named e ms table' ≡ engine_state trail' table' rows' waiting' stable_qhead
    qhead failed = rw (te, re, we) refl in (
      λ h. subst IsEngine shape (engine_kept e ms table' o n m l h),
      subst (λ x. MovesAttached x (engine_state trail' table' rows' waiting' stable_qhead qhead
          failed) ms) view (subst (λ y. MovesAttached e y ms) shape
          (attached_named e ms table' o n m l)),
      subst (λ x. FitsMoved x (engine_state trail' table' rows' waiting' stable_qhead qhead failed)
          ms) view (subst (λ y. FitsMoved e y ms) shape (fits_named e ms table' o n m l)),
    )
