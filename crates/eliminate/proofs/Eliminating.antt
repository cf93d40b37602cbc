-- A variable goes: the clauses with it are deleted once their resolvents are there, and those with
-- the variable itself are kept for reconstruction.
use Rattle.std.proofs.Common.{◌≡◌, ℕ, ◌-◌, ◌≤◌, Bool, true, false, ◌||◌, List, [], ◌∷◌, ◌++◌}
use Rattle.std.proofs.Common.{length, get_or, Some, ◌⊎◌, inl, inr, refl, sym, ◌∙◌, ap, subst, arith}
use Rattle.std.specs.Prelude.{All, Contains, slice_set, ◌==◌}
use Rattle.std.specs.List.{list_any}
use Rattle.std.proofs.lemmas.Bool.{both_ways, false_from_ne_true, and_left, or_from, cases_lt}
use Rattle.std.proofs.lemmas.Option.{same_Some, none-some, slice_get_past}
use Rattle.std.proofs.lemmas.List.{map-append, get_or-map, length-map}
use Rattle.std.proofs.lemmas.List.Folds.{list_any-append}
use Rattle.std.proofs.lemmas.List.Elements.{All-nil, All-cons, All-head, All-tail, All-append}
use Rattle.std.proofs.lemmas.List.Elements.{All-map, All-weaker, All-push, All-contains}
use Rattle.std.proofs.lemmas.List.Elements.{Contains-get_or, Contains-append_left}
use Rattle.std.proofs.lemmas.List.Elements.{Contains-append_right, Contains-append_cases}
use Rattle.cnf.specs.Literal.{Literal, Assignment, negation}
use Rattle.cnf.specs.Clause.{contains_literal, is_tautology}
use Rattle.cnf.specs.Bits.{assignment_of}
use Rattle.clauses.specs.Slots.{Slots, clause_at, live_clauses}
use Rattle.clauses.proofs.Laws.{contains_live}
use Rattle.cnf.specs.Lrat.{IsId}
use Rattle.lrat_log.specs.declared.lines.Name.{Name}
use Rattle.lrat_log.specs.declared.lines.Hint.TheVariants.{Plain}
use Rattle.lrat_log.specs.Log.{HasNumber, LogLine, IsLine, IsPlain, number_in}
use Rattle.eliminate_names.specs.Work.{name_at, delete_line}
use Rattle.eliminate.specs.declared.simplifier.Simplifier.{Simplifier}
use Rattle.reconstruction.specs.Stack.{IsFree, IsRemovedWithin}
use Rattle.cnf.specs.Literal.{positive}
use Rattle.reconstruction.specs.Removals.{Removed, is_needed}
use Rattle.eliminate.specs.Elimination.{SatisfiesAll}
use Rattle.reconstruction.specs.Removals.{becomes_true, extended, is_eliminated}
use Rattle.eliminate_tables.specs.Resolvents.{resolvent}
use Rattle.clauses.specs.Slots.{clause_under, clauses_under}
use Rattle.eliminate.specs.State.{Start, IsState, AreFree, GivesBack}
use Rattle.eliminate.specs.Simplifier.{IsSimplified}
use Rattle.eliminate.specs.Variables.{IsWith, AreThoseWith, IsPairResolved, ArePairsResolved}
use Rattle.eliminate.specs.Variables.{LeavesOut, KeepsWork}
use Rattle.eliminate_names.proofs.Laws.{number_at}
use Rattle.eliminate.proofs.Back.{negative}
use Rattle.reconstruction.proofs.Laws.{extended-append}
use Rattle.eliminate.proofs.Deleting.{leaves_join, rows_left}
use Rattle.eliminate.proofs.Growing.{resolvent-lacks}
use Rattle.eliminate_tables.proofs.Laws.{not-complement_too, under_live}
use Rattle.eliminate.proofs.States.{GoesWith, Lacks, goes_back, goes_free}

-- what holds of each clause with the literal holds of those under the references
under_all : (P : List Literal → Type 0) (l : Literal) (slots : Slots) (refs : List ℕ)
    → All (IsWith l slots) refs → ((r : ℕ) (c : List Literal) → clause_at slots r ≡ Some c
    → contains_literal l c ≡ true → P c)
    → All P (clauses_under slots refs)
under_all P l slots refs all f = All-map P (clause_under slots) refs
    (All-weaker (IsWith l slots) (λ r. P (clause_under slots r))
    (λ r w. subst P (sym (under_live slots r w.0 w.1)) (f r w.0 w.1 w.2)) refs all)

under_contains : (slots : Slots) (refs : List ℕ) (r : ℕ) (c : List Literal) → Contains refs r
    → clause_at slots r ≡ Some c → Contains (clauses_under slots refs) c
under_contains slots refs r c h e =
    subst (Contains (clauses_under slots refs)) (under_live slots r c e)
    (All-contains (λ q. Contains (clauses_under slots refs) (clause_under slots q)) refs
    r (λ k d lt.
    subst (Contains (clauses_under slots refs))
    (get_or-map (clause_under slots) refs k d (clause_under slots d) lt)
    (Contains-get_or (clauses_under slots refs) k (clause_under slots d)
    (omega (arith, length-map refs (clause_under slots))))) h)

-- a clause that lacks the variable does not need it
none_needed : (t : Assignment) (l : Literal) (cs : List (List Literal))
    → All (λ c. contains_literal l c ≡ false) cs → list_any (is_needed t l) cs ≡ false
none_needed t l [] all = refl
none_needed t l (c ∷ cs) all =
    or_from (is_needed t l c) (list_any (is_needed t l) cs)
    (and_left (contains_literal l c) _
    (All-head (λ (d : List Literal). contains_literal l d ≡ false) c cs all))
    (none_needed t l cs (All-tail (λ (d : List Literal). contains_literal l d ≡ false) c cs all))

abbrev removed_of : ℕ → List (List Literal) → Removed
removed_of v cs = record { variable = v; clauses = cs }

or-none : (b c : Bool) → c ≡ false → (b || c) ≡ b
or-none true c e = refl
or-none false c e = e

-- so only the clauses with the variable matter for its value
becomes-same : (t : Assignment) (v : ℕ) (cs ds : List (List Literal))
    → All (λ c. contains_literal (positive v) c ≡ false) ds
    → becomes_true t (removed_of v (cs ++ ds)) ≡ becomes_true t (removed_of v cs)
becomes-same t v cs ds all =
    list_any-append (is_needed t (positive v)) cs ds
    ∙ or-none (list_any (is_needed t (positive v)) cs) (list_any (is_needed t (positive v)) ds)
    (none_needed t (positive v) ds all)

extended-same : (removed : List Removed) (v : ℕ) (cs ds : List (List Literal)) (bits : List Bool)
    → All (λ c. contains_literal (positive v) c ≡ false) ds
    → extended (removed ++ removed_of v (cs ++ ds) ∷ []) bits
    ≡ extended (removed ++ removed_of v cs ∷ []) bits
extended-same removed v cs ds bits all =
    extended-append removed (removed_of v (cs ++ ds) ∷ []) bits
    ∙ ap (λ b. extended removed (slice_set bits (v - 1) b))
    (becomes-same (assignment_of bits) v cs ds all)
    ∙ sym (extended-append removed (removed_of v cs ∷ []) bits)

back_same : (n : ℕ) (removed : List Removed) (v : ℕ) (cs ds before after : List (List Literal))
    → All (λ c. contains_literal (positive v) c ≡ false) ds
    → GivesBack n (removed ++ removed_of v (cs ++ ds) ∷ []) before after
    → GivesBack n (removed ++ removed_of v cs ∷ []) before after
back_same n removed v cs ds before after all back bits few sat =
    subst (λ (xs : List Bool). SatisfiesAll (assignment_of xs) before)
    (extended-same removed v cs ds bits all) (back bits few sat)

eliminated-same : (removed : List Removed) (v u : ℕ) (cs ds : List (List Literal))
    → is_eliminated (removed ++ removed_of v cs ∷ []) u ≡ is_eliminated
    (removed ++ removed_of v ds ∷ []) u
eliminated-same removed v u cs ds =
    list_any-append (λ (r : Removed). r.variable == u) removed (removed_of v cs ∷ [])
    ∙ sym (list_any-append (λ (r : Removed). r.variable == u) removed (removed_of v ds ∷ []))

free_same : (removed : List Removed) (v : ℕ) (cs ds : List (List Literal)) (slots : Slots)
    → AreFree (removed ++ removed_of v cs ∷ []) slots
    → AreFree (removed ++ removed_of v ds ∷ []) slots
free_same removed v cs ds slots free r c e =
    All-weaker (λ (l : Literal). is_eliminated (removed ++ removed_of v cs ∷ []) l.variable ≡ false)
    (λ (l : Literal). is_eliminated (removed ++ removed_of v ds ∷ []) l.variable ≡ false)
    (λ l h. eliminated-same removed v l.variable ds cs ∙ h) c (free r c e)

module _ (start : Start) (s : Simplifier) (slots mid left : Slots) (ls most : List LogLine) (v : ℕ)
    (pos neg : List ℕ)
    (h : IsSimplified start s slots ls) (p : AreThoseWith (positive v) slots pos)
    (n : AreThoseWith (negation (positive v)) slots neg)
    (resolved : ArePairsResolved (positive v) slots slots pos neg) (first : LeavesOut pos slots mid)
    (second : LeavesOut neg mid left) where
  out : LeavesOut (pos ++ neg) slots left
  out = leaves_join pos neg slots mid left first second

  cs : List (List Literal)
  cs = clauses_under slots (pos ++ neg)

  plain : (r : ℕ) (c : List Literal) → clause_at slots r ≡ Some c → is_tautology c ≡ false
  plain r c e = (h.state.work.clauses r c e).no_tautology

  lacks : (r : ℕ) (c : List Literal) → clause_at left r ≡ Some c → Lacks v c
  lacks r c e = record {
    not_positive =
        false_from_ne_true (contains_literal (positive v) c)
        (λ has. out.gone r c e
        (Contains-append_left pos neg r (p.all r (c, out.stays r c e, has))));
    not_negative =
        false_from_ne_true (contains_literal (negative v) c)
        (λ has. out.gone r c e
        (Contains-append_right pos neg r (n.all r (c, out.stays r c e, has))));
  }

  -- the resolvents stay
  resolvent_stays : (q r : ℕ) (c d : List Literal) → clause_at slots q ≡ Some c
      → clause_at slots r ≡ Some d → contains_literal (positive v) c ≡ true
      → contains_literal (negative v) d ≡ true
      → (is_tautology (resolvent (positive v) c d) ≡ true)
      ⊎ Contains (live_clauses left) (resolvent (positive v) c d)
  resolvent_stays q r c d e f has has_not =
      let pairs =
      All-contains (λ (x : ℕ). All (IsPairResolved (positive v) slots slots x) neg) pos q resolved
      (p.all q (c, e, has)) in
      let pair : IsPairResolved (positive v) slots slots q r =
      All-contains (IsPairResolved (positive v) slots slots q) neg r pairs
      (n.all r (d, f, has_not)) in
      let w = resolvent-lacks (positive v) c d (plain q c e) (plain r d f) has has_not in
      elim (pair c d e f) [
        | inl complement ↦ inl complement
        | inr there ↦ elim (out.each there.0 (resolvent (positive v) c d) there.1) [
          | inl stays ↦ inr (contains_live left there.0 (resolvent (positive v) c d) stays)
          | inr gone ↦ elim (Contains-append_cases pos neg there.0 gone) [
            | inl one ↦
                let x = All-contains (IsWith (positive v) slots) pos there.0 p.with_it one in
                absurd (both_ways (contains_literal (positive v) (resolvent (positive v) c d))
                w.not_it (subst (λ y. contains_literal (positive v) y ≡ true)
                (same_Some x.0 (resolvent (positive v) c d) (sym x.1 ∙ there.1)) x.2))
            | inr other ↦
                let x =
                All-contains (IsWith (negation (positive v)) slots) neg there.0 n.with_it other in
                absurd (both_ways (contains_literal (negative v) (resolvent (positive v) c d))
                w.not_negation (subst (λ y. contains_literal (negative v) y ≡ true)
                (same_Some x.0 (resolvent (positive v) c d) (sym x.1 ∙ there.1)) x.2))
          ]
        ]
      ]

  abbrev HasPlaceIn : List Literal → Type 0
  HasPlaceIn c = (r : ℕ) × (clause_at slots r ≡ Some c)

  both : (P : List Literal → Type 0) → All P (clauses_under slots pos)
      → All P (clauses_under slots neg) → All P (clauses_under slots (pos ++ neg))
  both P a b =
      subst (All P) (sym (map-append (clause_under slots) pos neg))
      (All-append P (clauses_under slots pos) (clauses_under slots neg) a b)

  places : All HasPlaceIn (clauses_under slots (pos ++ neg))
  places =
      both HasPlaceIn (under_all HasPlaceIn (positive v) slots pos p.with_it (λ r c e has. (r, e)))
      (under_all HasPlaceIn (negation (positive v)) slots neg n.with_it (λ r c e has. (r, e)))

  abbrev HasIt : List Literal → Type 0
  HasIt c = (contains_literal (positive v) c ≡ true) ⊎ (contains_literal (negative v) c ≡ true)

  goes_with : GoesWith (removed_of v (clauses_under slots (pos ++ neg))) slots left
  goes_with = record {
    stays = λ r c e. (out.stays r c e, lacks r c e);
    each = λ r c e. elim (out.each r c e) [
      | inl there ↦ inl there
      | inr gone ↦ inr (under_contains slots (pos ++ neg) r c gone e)
    ];
    have = both HasIt (under_all HasIt (positive v) slots pos p.with_it (λ r c e has. inl has))
        (under_all HasIt (negation (positive v)) slots neg n.with_it (λ r c e has. inr has));
    resolved = λ k z lt m y lm has has_not.
        let a = places k z lt in
        let b = places m y lm in
        resolvent_stays a.0 b.0 (get_or (clauses_under slots (pos ++ neg)) k z)
        (get_or (clauses_under slots (pos ++ neg)) m y) a.1 b.1 has has_not;
  }

  -- the state without the variable
  pub variable_goes : s.is_refuted ≡ false → IsFree start.frozen v
      → IsRemovedWithin s.vars (removed_of v []) → KeepsWork s.names.names slots ls left most
      → IsState start s.vars left s.names.names most s.occurrences.rows
      (s.removals ++ record { variable = v; clauses = clauses_under slots pos } ∷ [])
  variable_goes works free within work =
      let all : clauses_under slots (pos ++ neg) ≡ clauses_under slots pos ++ clauses_under slots
      neg = map-append (clause_under slots) pos neg in
      let g : GoesWith (removed_of v (clauses_under slots pos ++ clauses_under slots neg)) slots
      left =
      subst (λ (xs : List (List Literal)). GoesWith (removed_of v xs) slots left) all goes_with in
      let others : All (λ c. contains_literal (positive v) c ≡ false) (clauses_under slots neg) =
      under_all (λ c. contains_literal (positive v) c ≡ false) (negation (positive v)) slots neg
      n.with_it (λ r c e has. not-complement_too (positive v) c (plain r c e) has) in
      record {
        work = (work _ _ _ h.state.work (h.going works)).0;
        occurrences = rows_left (pos ++ neg) s.occurrences.rows slots left out h.state.occurrences;
        places = h.state.places;
        back =
            back_same s.vars s.removals v (clauses_under slots pos) (clauses_under slots neg)
            start.clauses (live_clauses left) others
            (goes_back s.vars s.removals
            (removed_of v (clauses_under slots pos ++ clauses_under slots neg)) start.clauses
            slots left h.state.back within.0 within.1 g);
        within =
            All-push (IsRemovedWithin s.vars) s.removals (removed_of v (clauses_under slots pos))
            h.state.within within;
        free =
            free_same s.removals v (clauses_under slots pos ++ clauses_under slots neg)
            (clauses_under slots pos) left
            (goes_free s.removals
            (removed_of v (clauses_under slots pos ++ clauses_under slots neg)) slots left
            h.state.free g);
        not_frozen =
            All-push (λ (x : Removed). IsFree start.frozen x.variable) s.removals
            (removed_of v (clauses_under slots pos)) h.state.not_frozen free;
      }

-- a variable that is not frozen is one of the formula's
pub free_within : (frozen : List Bool) (v : ℕ) → IsFree frozen v → v ≤ length frozen
free_within frozen v free = elim (cases_lt (v - 1) (length frozen)) [
  | inl h ↦ (let some = free.0 in omega arith)
  | inr past ↦ absurd (none-some false (sym (slice_get_past frozen (v - 1) past) ∙ free.1))
]

-- a line that deletes a clause by its name
pub line_deletes : (names : List Name) (r : ℕ) → All (λ n. IsId (number_in n)) names
    → IsLine (delete_line (name_at names r))
line_deletes names r all = record {
  literals = All-nil (λ (k : Literal). IsId k.variable);
  names =
      All-cons HasNumber (Plain (name_at names r)) [] (number_at names r all) (All-nil HasNumber);
  deletes = λ e. (refl, All-cons IsPlain (Plain (name_at names r)) [] tt (All-nil IsPlain));
}
