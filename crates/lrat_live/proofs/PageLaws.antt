-- Pages of counts: one place of a page changes, and so one place of all.
use Rattle.std.proofs.Common.{◌≡◌, ℕ, ◌+◌, ◌-◌, ◌/◌, ◌%◌, ◌<◌, ◌≤◌, List, []}
use Rattle.std.proofs.Common.{length, get_or, set, map, refl, sym, ◌∙◌, ap, subst, arith, inl, inr}
use Rattle.std.specs.Prelude.{◌==◌, slice_index}
use Rattle.std.proofs.lemmas.Bool.{eq-eqb, ne_eqb, cases_eq, cases_lt}
use Rattle.std.proofs.Math.ListN.{get_or-eq_default}
use Rattle.std.proofs.lemmas.List.{get_or-set_same, get_or-set_other, get_or-map, map-set}
use Rattle.std.proofs.lemmas.List.{length-map}
use Rattle.cnf.specs.Numbers.{one_if}
use Rattle.lrat_live.specs.Pages.{count_in}
use Rattle.lrat_live.specs.declared.pages.TheConstants.{PAGE}

-- numbers
more_here : (h n s was one : ℕ) → h ≡ n → s ≡ was → n ≡ was + 1 → one ≡ 1 → h ≡ s + one
more_here h n s was one a b c d = omega arith

less_here : (h n s was one : ℕ) → h ≡ n → s ≡ was → n + 1 ≡ was → one ≡ 1 → h ≡ s - one
less_here h n s was one a b c d = omega arith

more_there : (h s none : ℕ) → h ≡ s → none ≡ 0 → h ≡ s + none
more_there h s none a b = omega arith

none_here : (s one : ℕ) → s ≡ 0 → s ≡ s - one
none_here s one e = omega arith

less_there : (h s none : ℕ) → h ≡ s → none ≡ 0 → h ≡ s - none
less_there h s none a b = omega arith

-- one literal of the clause more
pub set_more : (xs : List ℕ) (i n : ℕ) → i < length xs → n ≡ slice_index xs i + 1 → (p : ℕ)
    → slice_index (set xs i n) p ≡ slice_index xs p + one_if (p == i)
set_more xs i n h e p =
    elim (cases_eq p i) [
      | inl same ↦
          let one : one_if (p == i) ≡ 1 = ap one_if (eq-eqb p i same) in
          let here : slice_index (set xs i n) p ≡ n =
          subst (λ k. slice_index (set xs i n) k ≡ n) (sym same) (get_or-set_same xs i n 0 h) in
          let there : slice_index xs p ≡ slice_index xs i = ap (slice_index xs) same in
          more_here (slice_index (set xs i n) p) n (slice_index xs p) (slice_index xs i)
          (one_if (p == i)) here there e one
      | inr other ↦
          let none : one_if (p == i) ≡ 0 = ap one_if (ne_eqb p i other) in
          let here : slice_index (set xs i n) p ≡ slice_index xs p =
          get_or-set_other xs i p n 0 other in
          more_there (slice_index (set xs i n) p) (slice_index xs p) (one_if (p == i)) here none
    ]

pub set_less : (xs : List ℕ) (i n : ℕ) → i < length xs → n + 1 ≡ slice_index xs i → (p : ℕ)
    → slice_index (set xs i n) p ≡ slice_index xs p - one_if (p == i)
set_less xs i n h e p =
    elim (cases_eq p i) [
      | inl same ↦
          let one : one_if (p == i) ≡ 1 = ap one_if (eq-eqb p i same) in
          let here : slice_index (set xs i n) p ≡ n =
          subst (λ k. slice_index (set xs i n) k ≡ n) (sym same) (get_or-set_same xs i n 0 h) in
          let there : slice_index xs p ≡ slice_index xs i = ap (slice_index xs) same in
          less_here (slice_index (set xs i n) p) n (slice_index xs p) (slice_index xs i)
          (one_if (p == i)) here there e one
      | inr other ↦
          let none : one_if (p == i) ≡ 0 = ap one_if (ne_eqb p i other) in
          let here : slice_index (set xs i n) p ≡ slice_index xs p =
          get_or-set_other xs i p n 0 other in
          less_there (slice_index (set xs i n) p) (slice_index xs p) (one_if (p == i)) here none
    ]

-- where there is none, there is none to take
pub none_less : (xs : List ℕ) (i : ℕ) → slice_index xs i ≡ 0 → (p : ℕ)
    → slice_index xs p ≡ slice_index xs p - one_if (p == i)
none_less xs i e p =
    elim (cases_eq p i) [
      | inl same ↦ none_here (slice_index xs p) (one_if (p == i)) (ap (slice_index xs) same ∙ e)
      | inr other ↦ less_there (slice_index xs p) (slice_index xs p) (one_if (p == i)) refl
          (ap one_if (ne_eqb p i other))
    ]

-- a longer table, with none past its end before
pub reached : (old new : List ℕ) (n : ℕ) → length new ≡ n → length old ≤ n
    → ((k d : ℕ) → k < n → k < length old → get_or new k d ≡ get_or old k d)
    → ((k d : ℕ) → length old ≤ k → k < n → get_or new k d ≡ 0)
    → (p : ℕ) → slice_index new p ≡ slice_index old p
reached old new n long fewer kept fresh p =
    elim (cases_lt p (length old)) [
      | inl h ↦ kept p 0 (omega arith) h
      | inr h ↦ elim (cases_lt p n) [
        | inl k ↦ fresh p 0 h k ∙ sym (get_or-eq_default old 0 h)
        | inr k ↦ get_or-eq_default new 0 (omega arith) ∙ sym (get_or-eq_default old 0 h)
      ]
    ]

-- places of one page
same_place : (p place : ℕ) → p / PAGE ≡ place / PAGE
    → one_if (p % PAGE == place % PAGE) ≡ one_if (p == place)
same_place p place e =
    elim (cases_eq p place) [
      | inl same ↦
          ap one_if (eq-eqb (p % PAGE) (place % PAGE) (ap (λ k. k % PAGE) same))
          ∙ sym (ap one_if (eq-eqb p place same))
      | inr other ↦
          ap one_if (ne_eqb (p % PAGE) (place % PAGE) (λ m. other (omega (arith, e, m))))
          ∙ sym (ap one_if (ne_eqb p place other))
    ]

-- the page of a place is another one
module _ {X : Type 0} (f : X → List ℕ) (pages : List X) (place : ℕ) (old new : X)
    (within : place / PAGE < length pages) (was : old ≡ get_or pages (place / PAGE) old) where
  abbrev rows : List (List ℕ)
  rows = map f pages

  abbrev after : List (List ℕ)
  after = map f (set pages (place / PAGE) new)

  written : after ≡ set rows (place / PAGE) (f new)
  written = map-set f pages (place / PAGE) new

  before : f old ≡ get_or rows (place / PAGE) []
  before = ap f was ∙ sym (get_or-map f pages (place / PAGE) old [] within)

  here : (p : ℕ) → p / PAGE ≡ place / PAGE → count_in after p ≡ slice_index (f new) (p % PAGE)
  here p e =
      let inside : place / PAGE < length rows = omega (arith, within, length-map pages f) in
      ap (λ xs. count_in xs p) written
      ∙ ap (λ row. slice_index row (p % PAGE))
      (subst (λ i. get_or (set rows (place / PAGE) (f new)) i [] ≡ f new) (sym e)
      (get_or-set_same rows (place / PAGE) (f new) [] inside))

  there : (p : ℕ) → (p / PAGE ≡ place / PAGE → ⊥) → count_in after p ≡ count_in rows p
  there p other =
      ap (λ xs. count_in xs p) written
      ∙ ap (λ row. slice_index row (p % PAGE))
      (get_or-set_other rows (place / PAGE) (p / PAGE) (f new) [] other)

  was_here : (p : ℕ) → p / PAGE ≡ place / PAGE
      → slice_index (f old) (p % PAGE) ≡ count_in rows p
  was_here p e = ap (λ row. slice_index row (p % PAGE)) before
      ∙ ap (λ i. slice_index (get_or rows i []) (p % PAGE)) (sym e)

  pub page_raised : ((q : ℕ) → slice_index (f new) q
      ≡ slice_index (f old) q + one_if (q == place % PAGE))
      → (p : ℕ) → count_in after p ≡ count_in rows p + one_if (p == place)
  page_raised step p =
      elim (cases_eq (p / PAGE) (place / PAGE)) [
        | inl e ↦
            here p e ∙ step (p % PAGE)
            ∙ ap (λ n. slice_index (f old) (p % PAGE) + n) (same_place p place e)
            ∙ ap (λ n. n + one_if (p == place)) (was_here p e)
        | inr other ↦
            more_there (count_in after p) (count_in rows p) (one_if (p == place)) (there p other)
            (ap one_if (ne_eqb p place (λ e. other (ap (λ k. k / PAGE) e))))
      ]

  pub page_lowered : ((q : ℕ) → slice_index (f new) q
      ≡ slice_index (f old) q - one_if (q == place % PAGE))
      → (p : ℕ) → count_in after p ≡ count_in rows p - one_if (p == place)
  page_lowered step p =
      elim (cases_eq (p / PAGE) (place / PAGE)) [
        | inl e ↦
            here p e ∙ step (p % PAGE)
            ∙ ap (λ n. slice_index (f old) (p % PAGE) - n) (same_place p place e)
            ∙ ap (λ n. n - one_if (p == place)) (was_here p e)
        | inr other ↦
            less_there (count_in after p) (count_in rows p) (one_if (p == place)) (there p other)
            (ap one_if (ne_eqb p place (λ e. other (ap (λ k. k / PAGE) e))))
      ]
