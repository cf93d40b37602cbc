-- Rows that are cleaned, and the clauses that are then found in them.
use Rattle.std.proofs.Common.{◌≡◌, ℕ, zero, suc, ◌<◌, Bool, true, false, List, [], ◌∷◌, length}
use Rattle.std.proofs.Common.{filter, inl, inr, ◌⊎◌, sym, ◌∙◌, ap, subst, arith, get_or}
use Rattle.std.specs.Prelude.{Contains, if◌then◌else◌}
use Rattle.std.proofs.lemmas.Bool.{cases_eq}
use Rattle.std.proofs.lemmas.List.{get_or-set_same, get_or-set_other, length-set}
use Rattle.std.proofs.lemmas.List.Elements.{All-contains, All-filter, All-contains_itself}
use Rattle.std.proofs.lemmas.List.Elements.{Contains-get_or, filter_passes}
use Rattle.cnf.specs.Literal.{Literal, index_of}
use Rattle.clauses.specs.Slots.{Slots, clause_at}
use Rattle.cnf.specs.Marks.{HasPlace}
use Rattle.cnf.proofs.Laws.{place_within}
use Rattle.eliminate_tables.specs.Rows.{row_at, cleaned, is_some, has_clause, AreRows}
use Rattle.eliminate.specs.Variables.{AreThoseWith}
use Rattle.eliminate_tables.proofs.Laws.{some_clause}

contains_later : {X : Type 0} (x y : X) (xs : List X) → Contains xs x → Contains (y ∷ xs) x
contains_later x y xs h = (suc h.0, (let lt = h.1 in omega arith), h.2)

-- what passes the test stays
pub contains-filter : {X : Type 0} (p : X → Bool) (xs : List X) (x : X) → Contains xs x → p x ≡ true
    → Contains (filter p xs) x
contains-filter p [] x h t = absurd (omega (arith, h.1))
contains-filter p (y ∷ xs) x (zero, lt, e) t = rw (ap p e ∙ t) (0, omega arith, e)
contains-filter p (y ∷ xs) x (suc k, lt, e) t =
    let rest = contains-filter p xs x (k, omega arith, e) t in
    elim (p y) as (λ b. Contains (if b then y ∷ filter p xs else filter p xs) x) [
      | true ↦ contains_later x y (filter p xs) rest
      | false ↦ rest
    ]

-- and nothing comes
pub filter-contains : {X : Type 0} (p : X → Bool) (xs : List X) (x : X) → Contains (filter p xs) x
    → Contains xs x
filter-contains p xs x h =
    All-contains (Contains xs) (filter p xs) x
    (All-filter p (Contains xs) xs (All-contains_itself xs)) h

cleaned-from : (rows : List (List ℕ)) (slots : Slots) (i j r : ℕ) → i < length rows
    → Contains (row_at (cleaned rows slots i) j) r → Contains (row_at rows j) r
cleaned-from rows slots i j r lt h = elim (cases_eq j i) [
  | inl e ↦
      let same : row_at (cleaned rows slots i) j ≡ filter (has_clause slots) (row_at rows i) =
      ap (row_at (cleaned rows slots i)) e ∙ get_or-set_same rows i _ [] lt in
      subst (λ k. Contains (row_at rows k) r) (sym e)
      (filter-contains (has_clause slots) (row_at rows i) r (subst (λ xs. Contains xs r) same h))
  | inr n ↦ subst (λ xs. Contains xs r) (get_or-set_other rows i j _ [] n) h
]

cleaned-keeps : (rows : List (List ℕ)) (slots : Slots) (i j r : ℕ) → i < length rows
    → has_clause slots r ≡ true → Contains (row_at rows j) r
    → Contains (row_at (cleaned rows slots i) j) r
cleaned-keeps rows slots i j r lt live h = elim (cases_eq j i) [
  | inl e ↦
      let same : row_at (cleaned rows slots i) j ≡ filter (has_clause slots) (row_at rows i) =
      ap (row_at (cleaned rows slots i)) e ∙ get_or-set_same rows i _ [] lt in
      subst (λ xs. Contains xs r) (sym same) (contains-filter (has_clause slots) (row_at rows i) r
      (subst (λ k. Contains (row_at rows k) r) e h) live)
  | inr n ↦ subst (λ xs. Contains xs r) (sym (get_or-set_other rows i j _ [] n)) h
]

-- a row without the clauses that were deleted is still complete
pub rows_cleaned : (rows : List (List ℕ)) (slots : Slots) (i : ℕ) → i < length rows
    → AreRows rows slots → AreRows (cleaned rows slots i) slots
rows_cleaned rows slots i lt a = record {
  complete = λ r c l live has. cleaned-keeps rows slots i (index_of l) r lt (ap is_some live)
      (a.complete r c l live has);
  right =
      λ r c l some live stands. a.right r c l some live
      (cleaned-from rows slots i (index_of l) r lt stands);
  before = λ j r h. a.before j r (cleaned-from rows slots i j r lt h);
}

-- rows of which one may have been cleaned
pub rows_spaced : (old new : List (List ℕ)) (slots : Slots) (i : ℕ) → i < length old
    → (new ≡ old) ⊎ (new ≡ cleaned old slots i)
    → (AreRows old slots → AreRows new slots) × (length new ≡ length old)
rows_spaced old new slots i lt h = elim h [
  | inl same ↦ (λ a. subst (λ rs. AreRows rs slots) (sym same) a, ap length same)
  | inr less ↦ (
    λ a. subst (λ rs. AreRows rs slots) (sym less) (rows_cleaned old slots i lt a),
    ap length less ∙ length-set old i _,
  )
]

-- the live clauses in a literal's row are those with it
pub those_with : (rows : List (List ℕ)) (slots : Slots) (l : Literal) (references : List ℕ)
    → HasPlace (length rows) l → AreRows rows slots
    → references ≡ row_at (cleaned rows slots (index_of l)) (index_of l)
    → AreThoseWith l slots references
those_with rows slots l references place a is =
    let row : List ℕ = row_at rows (index_of l) in
    let are : references ≡ filter (has_clause slots) row =
    is ∙ get_or-set_same rows (index_of l) _ [] (place_within (length rows) l place) in
    subst (AreThoseWith l slots) (sym are) (record {
      with_it = λ k d lt.
          let r : ℕ = get_or (filter (has_clause slots) row) k d in
          let w = some_clause (clause_at slots r) (filter_passes (has_clause slots) row k d lt) in (
            w.0,
            w.1,
            a.right r w.0 l place.0 w.1
                (filter-contains (has_clause slots) row r
                (Contains-get_or (filter (has_clause slots) row) k d lt)),
          );
      all = λ r w. contains-filter (has_clause slots) row r (a.complete r w.0 l w.1 w.2)
          (ap is_some w.1);
    })
