-- Looking for attached clauses that have no literals but those of a given one.
use Rattle.std.proofs.Common.{◌≡◌, ℕ, ◌+◌, ◌<◌, ◌≤◌, ◌*◌, Bool, true, false, List, []}
use Rattle.std.proofs.Common.{◌∷◌, ◌++◌, take, length, if◌then◌else◌, Some, inl, inr, refl}
use Rattle.std.proofs.Common.{sym, ◌∙◌, ap, subst, arith}
use Rattle.std.specs.Prelude.{All, Contains, slice_get}
use Rattle.std.specs.List.{AllByRecursion}
use Rattle.std.proofs.lemmas.Bool.{or_cases, false≢true, both_ways, false_from_ne_true}
use Rattle.std.proofs.lemmas.List.{take_more}
use Rattle.std.proofs.lemmas.List.Elements.{All-from_recursion, recursion_from_All}
use Rattle.std.proofs.lemmas.Option.{same_Some}
use Rattle.cnf.specs.Literal.{Literal, literal_eq, index_of}
use Rattle.cnf.specs.Clause.{contains_literal, is_subset}
use Rattle.cnf.specs.Marks.{mark_of, IsMarked, HasPlace, are_marked}
use Rattle.cnf.proofs.Laws.{all_at, all_push, literal_eq-true, marked_subset, places_each}
use Rattle.cnf.proofs.Laws.{subset_at}
use Rattle.clauses.specs.Slots.{Slots, clause_at}
use Rattle.propagate_watches.specs.declared.pool.WatchEntry.{WatchEntry}
use Rattle.propagate_watches.specs.declared.table.Attachment.{Attachment}
use Rattle.propagate_watches.specs.declared.table.Attachment.TheVariants.{Detached, Waiting}
use Rattle.propagate_watches.specs.declared.table.Attachment.TheVariants.{Satisfied, Watching}
use Rattle.propagate_watches.specs.Pool.{row_at}
use Rattle.propagate_watches.specs.Table.{attachment_in}
use Rattle.propagate_trail.specs.Trail.{literals_of, kept_to}
use Rattle.propagate.specs.Watches.{EngineState, is_attached, watches_at, count_in}
use Rattle.propagate.specs.Fits.{Fits, FitsAttachment, HasTrue, HasBlocker, IsWithin}
use Rattle.propagate.specs.Subsets.{HasSubset, HasMarked, IsUnmarked, AreUnmarked}
use Rattle.propagate.proofs.Attachments.{one-same}
use Rattle.propagate.proofs.Completing.{named_in_row}
use Rattle.propagate.proofs.Looking.{attached_within, within_variable}
use Rattle.propagate.proofs.Stepping.{got_at}

-- the literals of a clause over the engine's variables have places
pub have_places : (n rows : ℕ) (c : List Literal) → 2 * n ≤ rows → IsWithin n c
    → All (HasPlace rows) c
have_places n rows c room w =
    All-from_recursion (HasPlace rows) c
    (places_each n rows c room (recursion_from_All (λ l. 0 < l.variable) c w.0) w.1)

-- and so has a blocker
pub has_place : (e : EngineState) (slots : Slots) (rows : ℕ) (x : WatchEntry) → Fits e slots
    → 2 * e.variables ≤ rows → HasBlocker e slots x → HasPlace rows x.blocker
has_place e slots rows x fits room b =
    let v =
    within_variable e.variables b.0 x.blocker
    (attached_within e slots x.reference b.0 fits b.1 b.2) b.3 in
    (v.0, omega (arith, v.1, room))

-- a clause with a literal that is not marked
one_unmarked : (marks : List Bool) (c : List Literal) (l : Literal) → contains_literal l c ≡ true
    → mark_of marks l ≡ false → are_marked marks c ≡ false
one_unmarked marks [] l m n = absurd (false≢true m)
one_unmarked marks (k ∷ c) l m n =
    elim (or_cases (literal_eq l k) (contains_literal l c) m) [
      | inl same ↦ ap (λ b. if b then are_marked marks c else false)
          (ap (mark_of marks) (sym (literal_eq-true l k same)) ∙ n)
      | inr later ↦ elim (mark_of marks k)
          as (λ b. (if b then are_marked marks c else false) ≡ false) [
            | true ↦ one_unmarked marks c l later n
            | false ↦ refl
          ]
    ]

pub blocker_unmarked : (e : EngineState) (slots : Slots) (marks : List Bool) (x : WatchEntry)
    → HasBlocker e slots x → mark_of marks x.blocker ≡ false → IsUnmarked slots marks x.reference
blocker_unmarked e slots marks x b n c live =
    one_unmarked marks c x.blocker
    (subst (λ d. contains_literal x.blocker d ≡ true) (same_Some b.0 c (sym b.2 ∙ live)) b.3) n

-- One more was looked at.

pub row_more : (slots : Slots) (marks : List Bool) (row : List WatchEntry) (k : ℕ) (x : WatchEntry)
    → k < length row → slice_get row k ≡ Some x → IsUnmarked slots marks x.reference
    → AreUnmarked slots marks (take k row) → AreUnmarked slots marks (take (k + 1) row)
row_more slots marks row k x lt got here before =
    subst (AreUnmarked slots marks)
    (sym (take_more row k x lt ∙ ap (λ y. take k row ++ y ∷ []) (sym (got_at row k x got))))
    (all_push (λ w. IsUnmarked slots marks w.reference) (take k row) x before here)

-- All were looked at.

abbrev pub AreRowsUnmarked : EngineState → Slots → List Bool → List Literal → Type 0
AreRowsUnmarked e slots marks lits =
    AllByRecursion (λ l. AreUnmarked slots marks (row_at e.watches.rows (index_of l))) lits

none_of : (e : EngineState) (slots : Slots) (marks : List Bool) (lits : List Literal) (r : ℕ)
    (c : List Literal) (p : Attachment) → p ≡ attachment_in e.watches.table r → Fits e slots
    → (HasTrue lits (literals_of (kept_to 0 e.trail)) → ⊥) → AreRowsUnmarked e slots marks lits
    → (p ≡ Waiting → IsUnmarked slots marks r) → clause_at slots r ≡ Some c
    → are_marked marks c ≡ true → is_subset c lits ≡ true → FitsAttachment e c p → ⊥
none_of e slots marks lits r c Detached same fits untrue rows waiting live m s h = h
none_of e slots marks lits r c Waiting same fits untrue rows waiting live m s h =
    both_ways _ (waiting refl c live) m
none_of e slots marks lits r c Satisfied same fits untrue rows waiting live m s h =
    untrue (h.0, subset_at c lits h.0 s h.1, h.2)
none_of e slots marks lits r c (Watching one other rest) same fits untrue rows waiting live m s h =
    let row = row_at e.watches.rows (index_of one) in
    let own : AreUnmarked slots marks row =
    all_at (λ l. AreUnmarked slots marks (row_at e.watches.rows (index_of l))) lits one rows
    (subset_at c lits one s h.1.member) in
    let there : 0 < watches_at (Watching one other rest) (index_of one) =
    let a = one-same (index_of one) (index_of one) refl in omega arith in
    let n : 0 < count_in r row =
    subst (λ k. 0 < k) (sym (fits.rows (index_of one) r))
    (subst (λ z. 0 < watches_at z (index_of one)) same there) in
    both_ways _ (named_in_row (IsUnmarked slots marks) row r n own c live) m

pub none_found : (e : EngineState) (slots : Slots) (marks : List Bool) (lits : List Literal)
    → Fits e slots → IsMarked marks lits → (HasTrue lits (literals_of (kept_to 0 e.trail)) → ⊥)
    → AreRowsUnmarked e slots marks lits
    → ((r : ℕ) → Contains e.watches.waiting r → is_attached e r ≡ true → IsUnmarked slots marks r)
    → (r : ℕ) (c : List Literal) → is_attached e r ≡ true → clause_at slots r ≡ Some c
    → is_subset c lits ≡ false
none_found e slots marks lits fits m untrue rows waiting r c was live =
    let f = fits.attached r was in
    let same : f.0 ≡ c = same_Some f.0 c (sym f.1 ∙ live) in
    let w = attached_within e slots r c fits was live in
    false_from_ne_true (is_subset c lits)
    (λ s. none_of e slots marks lits r c (attachment_in e.watches.table r) refl fits untrue rows
    (λ waits. waiting r (fits.waiting r waits) was) live (marked_subset marks c lits m w.0 ∙ s) s
    (subst (λ d. FitsAttachment e d (attachment_in e.watches.table r)) same f.2.1))

-- Some was found.

pub some_found : (e : EngineState) (slots : Slots) (marks : List Bool) (lits : List Literal)
    → Fits e slots → IsMarked marks lits → HasMarked e slots marks → HasSubset slots lits
some_found e slots marks lits fits m h =
    let w = attached_within e slots h.reference h.clause fits h.attached h.live in
    record {
      reference = h.reference;
      clause = h.clause;
      live = h.live;
      within = sym (marked_subset marks h.clause lits m w.0) ∙ h.marked;
    }
