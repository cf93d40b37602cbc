-- The moves of the elimination: a clause that follows is added, and one that another makes needless
-- is deleted.
use Rattle.std.proofs.Common.{◌≡◌, ◌≢◌, ℕ, ◌+◌, ◌*◌, ◌<◌, ◌≤◌, ◌^◌, Bool, true, false, List, []}
use Rattle.std.proofs.Common.{◌∷◌, ◌++◌, length, Some, None, ◌⊎◌, ◌||◌, ◌&&◌, ◌==◌, inl, inr, refl}
use Rattle.std.proofs.Common.{sym, ◌∙◌, ap, subst, arith, slice_set, get_or}
use Rattle.std.specs.Prelude.{All, Contains}
use Rattle.std.proofs.lemmas.Bool.{or_parts, or_from, cases_eq}
use Rattle.std.proofs.lemmas.List.Folds.{list_any-append}
use Rattle.std.proofs.lemmas.List.Elements.{All-nil, All-cons, All-head, All-tail}
use Rattle.std.proofs.lemmas.Option.{same_Some}
use Rattle.cnf.specs.Literal.{Literal, literal_eq, same_bool}
use Rattle.cnf.specs.Clause.{Satisfies, is_subset, greatest_variable, contains_literal}
use Rattle.cnf.specs.Clause.{is_tautology}
use Rattle.cnf.specs.Formula.{IsFormulaClause}
use Rattle.cnf.specs.Bits.{assignment_of}
use Rattle.clauses.specs.Slots.{Slots, clause_at, live_clauses}
use Rattle.lrat_log.specs.declared.lines.Name.{Name}
use Rattle.lrat_log.specs.Log.{LogLine, is_learned}
use Rattle.lrat_log.specs.Steps.{given_of, AddsNoEmptyClause, IsOwnGroup}
use Rattle.cnf.specs.Marks.{HasPlace}
use Rattle.cnf.specs.Literal.{positive}
use Rattle.reconstruction.specs.Removals.{Removed, is_eliminated}
use Rattle.eliminate_tables.specs.Resolvents.{resolvent}
use Rattle.lrat_log.specs.Steps.{added_count}
use Rattle.eliminate_names.specs.Work.{name_at, added_line, delete_line, IsRupLine}
use Rattle.eliminate_tables.specs.Rows.{with_clause_rows}
use Rattle.eliminate.specs.State.{Start, IsState, AreFree, GivesBack}
use Rattle.eliminate.proofs.Back.{Entails, IsAccountedFor, HaveVariable, negative, extends_weaker}
use Rattle.eliminate.proofs.Back.{extends_eliminated, resolve_to, entails_subsumed, entails_member}
use Rattle.eliminate_names.proofs.Laws.{work_added, work_deleted}
use Rattle.clauses.proofs.Laws.{clause_cases, clause_kept, clause_left, clause_other, all_live}
use Rattle.clauses.proofs.Laws.{live_all, contains_live}
use Rattle.eliminate.proofs.Occurring.{rows_added, rows_deleted, rows-length}

place_of : (n : ℕ) (l : Literal) → 0 < l.variable → l.variable ≤ n → HasPlace (2 * n) l
place_of n l some few = (some, omega arith)

pub places_of : (n : ℕ) (c : List Literal) → All (λ l. 0 < l.variable) c → greatest_variable c ≤ n
    → All (HasPlace (2 * n)) c
places_of n [] some few = All-nil (HasPlace (2 * n))
places_of n (l ∷ c) some few =
    All-cons (HasPlace (2 * n)) l c
    (place_of n l (All-head (λ (k : Literal). 0 < k.variable) l c some) (omega arith))
    (places_of n c (All-tail (λ (k : Literal). 0 < k.variable) l c some) (omega arith))

module _ (start : Start) (variables : ℕ) (slots : Slots) (names : List Name) (ls : List LogLine)
    (rows : List (List ℕ)) (removed : List Removed)
    (s : IsState start variables slots names ls rows removed) (going : AddsNoEmptyClause ls) where
  -- a clause is added that follows by its hints, and has no eliminated variable
  pub state_added : (l : LogLine) → IsRupLine (given_of start.clauses) ls l → All IsOwnGroup l.hints
      → is_learned l.kind ≡ false → added_count ls + 1 < 2 ^ 62 → IsFormulaClause variables l.clause
      → All (λ (k : Literal). is_eliminated removed k.variable ≡ false) l.clause
      → IsState start variables (slots ++ Some l.clause ∷ [])
      (names ++ added_line (added_count ls) ∷ []) (ls ++ l ∷ [])
      (with_clause_rows rows l.clause (length slots)) removed
  state_added l rup own unlearned small clause free =
      let places : All (HasPlace (length rows)) l.clause =
      subst (λ n. All (HasPlace n) l.clause) (sym s.places)
      (places_of variables l.clause clause.from_one clause.small) in
      record {
        work =
            work_added (length start.frozen) variables (given_of start.clauses) slots names ls l
            s.work going rup own unlearned small clause;
        occurrences = rows_added rows slots l.clause s.occurrences places;
        places = rows-length rows l.clause (length slots) ∙ s.places;
        back =
            λ bits few all. s.back bits few (all_live (Satisfies (assignment_of bits)) slots
            (λ r c e. live_all (Satisfies (assignment_of bits)) (slots ++ Some l.clause ∷ []) all r
            c (clause_kept slots l.clause c r e)));
        within = s.within;
        free = λ r c e. elim (clause_cases slots l.clause r c e) [
          | inl w ↦ s.free r c w
          | inr w ↦ subst (λ (d : List Literal). All
              (λ (k : Literal). is_eliminated removed k.variable ≡ false) d) (sym w.1) free
        ];
        not_frozen = s.not_frozen;
      }

  -- a clause is deleted that another one has as a superset
  pub state_subsumed : (r t : ℕ) (c d : List Literal) → t ≢ r → clause_at slots r ≡ Some d
      → clause_at slots t ≡ Some c → is_subset c d ≡ true
      → IsState start variables (slice_set slots r None) names
      (ls ++ delete_line (name_at names r) ∷ []) rows removed
  state_subsumed r t c d other live by subset =
      let after : Slots = slice_set slots r None in
      let follows : All (Entails (live_clauses after)) (live_clauses slots) =
      all_live (Entails (live_clauses after)) slots (λ q x e. by_place q x e) in
      record {
        work =
            work_deleted (length start.frozen) variables (given_of start.clauses) slots names ls r d
            s.work going live;
        occurrences = rows_deleted rows slots r s.occurrences;
        places = s.places;
        back =
            extends_weaker variables removed start.clauses (live_clauses slots) (live_clauses after)
            s.back follows;
        within = s.within;
        free = λ q x e. s.free q x (clause_left slots r q x e).1;
        not_frozen = s.not_frozen;
      }
    where
      by_place : (q : ℕ) (x : List Literal) → clause_at slots q ≡ Some x
          → Entails (live_clauses (slice_set slots r None)) x
      by_place q x e =
          let after : Slots = slice_set slots r None in
          elim (cases_eq q r) [
            | inl h ↦ subst (Entails (live_clauses after))
                (sym (same_Some x d (sym e ∙ ap (clause_at slots) h ∙ live)))
                (entails_subsumed (live_clauses after) c d
                (contains_live after t c (clause_other slots r t other ∙ by)) subset)
            | inr n ↦ entails_member (live_clauses after) x
                (contains_live after q x (clause_other slots r q n ∙ e))
          ]

-- a clause lacks the variable
pub record Lacks (v : ℕ) (c : List Literal) : Type 0 where
  pub not_positive : contains_literal (positive v) c ≡ false
  pub not_negative : contains_literal (negative v) c ≡ false

-- what is left of a store, where a variable goes with its clauses: each clause is removed or stays,
-- and what stays lacks the variable
pub record GoesWith (r : Removed) (slots left : Slots) : Type 0 where
  pub stays : (q : ℕ) (c : List Literal) → clause_at left q ≡ Some c → (clause_at slots q ≡ Some c)
      × Lacks r.variable c
  pub each : (q : ℕ) (c : List Literal) → clause_at slots q ≡ Some c → (clause_at left q ≡ Some c)
      ⊎ Contains r.clauses c
  pub have : HaveVariable r.variable r.clauses
  pub resolved : All (λ c. All (λ d. contains_literal (positive r.variable) c ≡ true
      → contains_literal (negative r.variable) d ≡ true
      → (is_tautology (resolvent (positive r.variable) c d) ≡ true)
      ⊎ Contains (live_clauses left) (resolvent (positive r.variable) c d)) r.clauses) r.clauses

pub goes_back : (n : ℕ) (removed : List Removed) (r : Removed) (before : List (List Literal))
    (slots left : Slots) → GivesBack n removed before (live_clauses slots) → 0 < r.variable
    → r.variable ≤ n → GoesWith r slots left
    → GivesBack n (removed ++ r ∷ []) before (live_clauses left)
goes_back n removed r before slots left back some few g =
    extends_eliminated n removed r before (live_clauses slots) (live_clauses left) back
    few (record {
      from_one = some;
      have = g.have;
      resolved =
          λ k c lt m d mt p q. resolve_to (live_clauses left) r.variable (get_or r.clauses k c)
          (get_or r.clauses m d) (elim (g.resolved k c lt m d mt p q) [
            | inl pair ↦ inl pair
            | inr there ↦ inr (entails_member (live_clauses left) _ there)
          ]);
      kept = all_live (IsAccountedFor r (live_clauses left)) slots (λ q c e. elim (g.each q c e) [
        | inl there ↦ let w = (g.stays q c there).1 in
            inr (
              entails_member (live_clauses left) c (contains_live left q c there),
              w.not_positive,
              w.not_negative,
            )
        | inr gone ↦ inl gone
      ]);
    })

-- a literal of a clause that lacks the variable is on another one
other_variable : (v : ℕ) (c : List Literal) → Lacks v c
    → All (λ (k : Literal). (v == k.variable) ≡ false) c
other_variable v [] h = All-nil (λ (k : Literal). (v == k.variable) ≡ false)
other_variable v (k ∷ c) h =
    let p = or_parts (literal_eq (positive v) k) (contains_literal (positive v) c) h.not_positive in
    let n = or_parts (literal_eq (negative v) k) (contains_literal (negative v) c) h.not_negative in
    All-cons (λ (l : Literal). (v == l.variable) ≡ false) k c
    (by (v == k.variable) k.negated p.0 n.0)
    (other_variable v c (record { not_positive = p.1; not_negative = n.1 }))
  where
    by : (b m : Bool) → (b && same_bool false m) ≡ false → (b && same_bool true m) ≡ false
        → b ≡ false
    by true true p n = n
    by true false p n = p
    by false m p n = refl

pub goes_free : (removed : List Removed) (r : Removed) (slots left : Slots) → AreFree removed slots
    → GoesWith r slots left → AreFree (removed ++ r ∷ []) left
goes_free removed r slots left free g q c e =
    let w = g.stays q c e in
    all_both (λ (l : Literal). is_eliminated removed l.variable ≡ false)
    (λ (l : Literal). (r.variable == l.variable) ≡ false)
    (λ (l : Literal). is_eliminated (removed ++ r ∷ []) l.variable ≡ false)
    (λ l a b. list_any-append (λ (x : Removed). x.variable == l.variable) removed (r ∷ [])
    ∙ or_from (is_eliminated removed l.variable) ((r.variable == l.variable) || false) a
    (or_from (r.variable == l.variable) false b refl))
    c (free q c w.0) (other_variable r.variable c w.1)
  where
    all_both : (P Q R : Literal → Type 0) → ((l : Literal) → P l → Q l → R l) → (c : List Literal)
        → All P c → All Q c → All R c
    all_both P Q R f c p q k d lt = f (get_or c k d) (p k d lt) (q k d lt)
