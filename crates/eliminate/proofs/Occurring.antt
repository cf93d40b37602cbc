-- Rows of references that are written, and the clauses that stand in them.
use Rattle.std.proofs.Common.{◌≡◌, ◌≢◌, ℕ, ◌+◌, ◌<◌, true, List, [], ◌∷◌, ◌++◌, length, Some, None}
use Rattle.std.proofs.Common.{◌⊎◌, inl, inr, refl, sym, ◌∙◌, ap, subst, arith, length-append}
use Rattle.std.specs.Prelude.{Contains, All, slice_set}
use Rattle.std.proofs.lemmas.Bool.{cases_eq, or_cases, or_left, or_right, false≢true}
use Rattle.std.proofs.lemmas.List.{get_or-set_same, get_or-set_other, length-set}
use Rattle.std.proofs.lemmas.List.Elements.{Contains-push, Contains-push_cases}
use Rattle.std.proofs.lemmas.List.Elements.{Contains-append_left, All-head, All-tail}
use Rattle.cnf.specs.Literal.{Literal, literal_eq, index_of}
use Rattle.cnf.specs.Clause.{contains_literal}
use Rattle.cnf.proofs.Laws.{index_same, literal_eq-true}
use Rattle.clauses.specs.Slots.{Slots}
use Rattle.eliminate_tables.specs.Rows.{row_at, with_row, with_entry, with_clause_rows, AreRows}
use Rattle.cnf.specs.Marks.{HasPlace}
use Rattle.cnf.proofs.Laws.{place_within}
use Rattle.clauses.proofs.Laws.{clause_cases, clause_left, live_within}
use Rattle.cnf.proofs.Laws.{literal_eq-refl}

row-same : (rows : List (List ℕ)) (i : ℕ) (row : List ℕ) → i < length rows
    → row_at (with_row rows i row) i ≡ row
row-same rows i row h = get_or-set_same rows i row [] h

row-other : (rows : List (List ℕ)) (i j : ℕ) (row : List ℕ) → j ≢ i
    → row_at (with_row rows i row) j ≡ row_at rows j
row-other rows i j row n = get_or-set_other rows i j row [] n

entry-length : (r : ℕ) (rows : List (List ℕ)) (l : Literal)
    → length (with_entry r rows l) ≡ length rows
entry-length r rows l = length-set rows (index_of l) (row_at rows (index_of l) ++ r ∷ [])

entry_kept : (r : ℕ) (rows : List (List ℕ)) (l : Literal) (i s : ℕ) → HasPlace (length rows) l
    → Contains (row_at rows i) s → Contains (row_at (with_entry r rows l) i) s
entry_kept r rows l i s place h =
    let row : List ℕ = row_at rows (index_of l) ++ r ∷ [] in
    elim (cases_eq i (index_of l)) [
      | inl e ↦ subst (λ xs. Contains xs s)
          (sym (ap (row_at (with_entry r rows l)) e
          ∙ row-same rows (index_of l) row (place_within (length rows) l place)))
          (Contains-append_left (row_at rows (index_of l)) (r ∷ []) s
          (subst (λ k. Contains (row_at rows k) s) e h))
      | inr n ↦ subst (λ xs. Contains xs s) (sym (row-other rows (index_of l) i row n)) h
    ]

entry_new : (r : ℕ) (rows : List (List ℕ)) (l : Literal) → HasPlace (length rows) l
    → Contains (row_at (with_entry r rows l) (index_of l)) r
entry_new r rows l place =
    subst (λ xs. Contains xs r)
    (sym (row-same rows (index_of l) (row_at rows (index_of l) ++ r ∷ [])
    (place_within (length rows) l place))) (Contains-push (row_at rows (index_of l)) r)

entry_from : (r : ℕ) (rows : List (List ℕ)) (l : Literal) (i s : ℕ) → HasPlace (length rows) l
    → Contains (row_at (with_entry r rows l) i) s → Contains (row_at rows i) s
    ⊎ ((s ≡ r) × (i ≡ index_of l))
entry_from r rows l i s place h =
    let row : List ℕ = row_at rows (index_of l) ++ r ∷ [] in
    elim (cases_eq i (index_of l)) [
      | inl e ↦
          let same : row_at (with_entry r rows l) i ≡ row = ap (row_at (with_entry r rows l)) e
          ∙ row-same rows (index_of l) row (place_within (length rows) l place) in
          elim (Contains-push_cases (row_at rows (index_of l)) r s
          (subst (λ xs. Contains xs s) same h)) [
            | inl old ↦ inl (subst (λ k. Contains (row_at rows k) s) (sym e) old)
            | inr new ↦ inr (sym new, e)
          ]
      | inr n ↦ inl (subst (λ xs. Contains xs s) (row-other rows (index_of l) i row n) h)
    ]

abbrev HavePlaces : ℕ → List Literal → Type 0
HavePlaces n c = All (HasPlace n) c

places_after : (r : ℕ) (rows : List (List ℕ)) (l : Literal) (c : List Literal)
    → HavePlaces (length rows) (l ∷ c) → HavePlaces (length (with_entry r rows l)) c
places_after r rows l c all =
    subst (λ n. HavePlaces n c) (sym (entry-length r rows l))
    (All-tail (HasPlace (length rows)) l c all)

pub rows-length : (rows : List (List ℕ)) (c : List Literal) (r : ℕ)
    → length (with_clause_rows rows c r) ≡ length rows
rows-length rows [] r = refl
rows-length rows (l ∷ c) r = rows-length (with_entry r rows l) c r ∙ entry-length r rows l

pub rows_kept : (rows : List (List ℕ)) (c : List Literal) (r i s : ℕ) → HavePlaces (length rows) c
    → Contains (row_at rows i) s → Contains (row_at (with_clause_rows rows c r) i) s
rows_kept rows [] r i s all h = h
rows_kept rows (l ∷ c) r i s all h =
    rows_kept (with_entry r rows l) c r i s (places_after r rows l c all)
    (entry_kept r rows l i s (All-head (HasPlace (length rows)) l c all) h)

pub rows_new : (rows : List (List ℕ)) (c : List Literal) (r : ℕ) (k : Literal)
    → HavePlaces (length rows) c → contains_literal k c ≡ true
    → Contains (row_at (with_clause_rows rows c r) (index_of k)) r
rows_new rows [] r k all e = absurd (false≢true e)
rows_new rows (l ∷ c) r k all e =
    elim (or_cases (literal_eq k l) (contains_literal k c) e) [
      | inl same ↦ rows_kept (with_entry r rows l) c r (index_of k) r (places_after r rows l c all)
          (subst (λ (x : Literal). Contains (row_at (with_entry r rows l) (index_of x)) r)
          (sym (literal_eq-true k l same))
          (entry_new r rows l (All-head (HasPlace (length rows)) l c all)))
      | inr more ↦ rows_new (with_entry r rows l) c r k (places_after r rows l c all) more
    ]

pub rows_from : (rows : List (List ℕ)) (c : List Literal) (r i s : ℕ) → HavePlaces (length rows) c
    → Contains (row_at (with_clause_rows rows c r) i) s
    → Contains (row_at rows i) s
    ⊎ ((s ≡ r) × ((k : Literal) × (contains_literal k c ≡ true) × (0 < k.variable)
    × (i ≡ index_of k)))
rows_from rows [] r i s all h = inl h
rows_from rows (l ∷ c) r i s all h =
    elim (rows_from (with_entry r rows l) c r i s (places_after r rows l c all) h) [
      | inl old ↦ elim (entry_from r rows l i s (All-head (HasPlace (length rows)) l c all) old) [
        | inl older ↦ inl older
        | inr new ↦ inr (
          new.0,
          (
            l,
            or_left (literal_eq l l) (contains_literal l c) (literal_eq-refl l),
            (All-head (HasPlace (length rows)) l c all).0,
            new.1,
          ),
        )
      ]
      | inr new ↦ inr (
        new.0,
        (
          new.1.0,
          or_right (literal_eq new.1.0 l) (contains_literal new.1.0 c) new.1.1,
          new.1.2,
          new.1.3,
        ),
      )
    ]

-- a clause is added to the store and to the rows of its literals
pub rows_added : (rows : List (List ℕ)) (slots : Slots) (c : List Literal) → AreRows rows slots
    → HavePlaces (length rows) c
    → AreRows (with_clause_rows rows c (length slots)) (slots ++ Some c ∷ [])
rows_added rows slots c a all = record {
  complete = λ r d l live has. elim (clause_cases slots c r d live) [
    | inl w ↦ rows_kept rows c (length slots) (index_of l) r all (a.complete r d l w has)
    | inr w ↦ rw w.0 (rows_new rows c (length slots) l all
        (subst (λ x. contains_literal l x ≡ true) w.1 has))
  ];
  right = λ r d l some live stands. elim (clause_cases slots c r d live) [
    | inr w ↦ elim (rows_from rows c (length slots) (index_of l) r all stands) [
      | inl old ↦ let h : r < length slots = a.before (index_of l) r old in
          let e : r ≡ length slots = w.0 in absurd (omega arith)
      | inr new ↦
          let same : l ≡ new.1.0 = index_same l new.1.0 some new.1.2 new.1.3 in
          rw same (subst (λ x. contains_literal new.1.0 x ≡ true) (sym w.1) new.1.1)
    ]
    | inl w ↦ elim (rows_from rows c (length slots) (index_of l) r all stands) [
      | inl old ↦ a.right r d l some w old
      | inr new ↦ let h : r < length slots = live_within slots r d w in let e : r ≡ length slots =
          new.0 in absurd (omega arith)
    ]
  ];
  before = λ i r h.
      let long : length (slots ++ Some c ∷ []) ≡ length slots + 1 =
      length-append slots (Some c ∷ []) in
      elim (rows_from rows c (length slots) i r all h) [
        | inl old ↦ let b : r < length slots = a.before i r old in omega arith
        | inr new ↦ let e : r ≡ length slots = new.0 in omega arith
      ];
}

-- a clause is deleted
pub rows_deleted : (rows : List (List ℕ)) (slots : Slots) (s : ℕ) → AreRows rows slots
    → AreRows rows (slice_set slots s None)
rows_deleted rows slots s a = record {
  complete = λ r d l live has. a.complete r d l (clause_left slots s r d live).1 has;
  right = λ r d l some live stands. a.right r d l some (clause_left slots s r d live).1 stands;
  before = λ i r h. let b : r < length slots = a.before i r h in
      omega (arith, length-set slots s None);
}
