-- What a binary search finds among moves: the new reference, or that there is none.
use Rattle.std.proofs.Common.{◌≡◌, ◌≢◌, ℕ, zero, suc, ◌<◌, ◌≤◌, true, false, [], ◌∷◌, length}
use Rattle.std.proofs.Common.{get_or, map, Some, None, Ok, Err, refl, sym, ◌∙◌, ap, arith, inl, inr}
use Rattle.std.specs.Prelude.{◌==◌}
use Rattle.std.specs.List.Sorted.{IsStrictlyIncreasing, IsSearchInRange, IsBinarySearchResult}
use Rattle.std.specs.List.Sorted.{IsNonDecreasingBy}
use Rattle.std.specs.Ordering.{nat_cmp, ordering_index}
use Rattle.std.proofs.lemmas.Bool.{cases_lt, eq-eqb, ne_eqb}
use Rattle.std.proofs.lemmas.Bool.Decides.{nat_tests}
use Rattle.std.proofs.lemmas.Cmp.{ranked}
use Rattle.std.proofs.lemmas.List.{get_or-map, get_or_default, length-map}
use Rattle.std.proofs.lemmas.List.Kept.{AllPairs-from_increasing}
use Rattle.std.proofs.lemmas.List.Sorted.{IsNonDecreasingBy-from_default}
use Rattle.clauses.specs.Slots.{Renaming, renamed, old_at}

abbrev Rises : Renaming → Type 0
Rises ms = (i j : ℕ) → i < j → j < length ms → old_at ms i < old_at ms j

pub rises_pairs : (ms : Renaming) → IsStrictlyIncreasing (map (λ m. m.0) ms) → Rises ms
rises_pairs ms h i j below within =
    let long : length (map (λ m. m.0) ms) ≡ length ms = length-map ms (λ m. m.0) in
    let all : get_or (map (λ m. m.0) ms) i 0 < get_or (map (λ m. m.0) ms) j 0 =
    AllPairs-from_increasing (map (λ m. m.0) ms) h i j 0 below (omega arith) in
    omega (
      arith,
      all,
      get_or-map (λ m. m.0) ms i (0, 0) 0 (omega arith),
      get_or-map (λ m. m.0) ms j (0, 0) 0 within,
    )

pub renamed_here : (m : ℕ × ℕ) (ms : Renaming) (r : ℕ) → m.0 ≡ r → renamed (m ∷ ms) r ≡ Some m.1
renamed_here m ms r e = let t : (m.0 == r) ≡ true = eq-eqb m.0 r e in rw t refl

pub renamed_later : (m : ℕ × ℕ) (ms : Renaming) (r : ℕ) → m.0 ≢ r
    → renamed (m ∷ ms) r ≡ renamed ms r
renamed_later m ms r e = let t : (m.0 == r) ≡ false = ne_eqb m.0 r e in rw t refl

pub renamed_at : (ms : Renaming) (r i : ℕ) → Rises ms → i < length ms → old_at ms i ≡ r
    → renamed ms r ≡ Some (get_or ms i (0, 0)).1
renamed_at [] r i h l e = absurd (omega arith)
renamed_at (m ∷ ms) r zero h l e = renamed_here m ms r e
renamed_at (m ∷ ms) r (suc i) h l e =
    let z : m.0 < old_at ms i = h 0 (suc i) (omega arith) l in
    let ne : m.0 ≢ r = omega arith in
    renamed_later m ms r ne
    ∙ renamed_at ms r i (λ a b below within. h (suc a) (suc b) (omega arith) (omega arith))
    (omega arith) e

renamed_nowhere : (ms : Renaming) (r : ℕ) → ((i : ℕ) → i < length ms → old_at ms i ≢ r)
    → renamed ms r ≡ None
renamed_nowhere [] r h = refl
renamed_nowhere (m ∷ ms) r h = renamed_later m ms r (h 0 (omega arith))
    ∙ renamed_nowhere ms r (λ i l. h (suc i) (omega arith))

module _ (ms : Renaming) (h : IsStrictlyIncreasing (map (λ m. m.0) ms)) (r : ℕ) where
  -- the comparisons with r rise along the list, as a binary search asks
  comparisons_rise : IsNonDecreasingBy (λ m. ordering_index (nat_cmp m.0 r)) ms
  comparisons_rise = IsNonDecreasingBy-from_default (λ m. ordering_index (nat_cmp m.0 r)) ms (
    0,
    0,
  ) (λ i j le within.
      let keys : old_at ms i ≤ old_at ms j =
      grind (arith, rises_pairs ms h i j, λ (same : i ≡ j). ap (old_at ms) same) in
      grind (arith, nat_tests))

  pub found : (i : ℕ) (m : ℕ × ℕ) → IsSearchInRange (Ok i) (length ms)
      → IsBinarySearchResult (λ m. nat_cmp m.0 r) ms (Ok i) → m ≡ get_or ms i m
      → renamed ms r ≡ Some m.1
  found i m within equal is =
      let same : m ≡ get_or ms i (0, 0) = is ∙ get_or_default ms i m (0, 0) within in
      renamed_at ms r i (rises_pairs ms h) within (ranked _ r _ (sym (equal (0, 0))))
      ∙ ap (λ (x : ℕ × ℕ). Some x.1) (sym same)

  pub absent : (i : ℕ) → IsSearchInRange (Err i) (length ms)
      → IsBinarySearchResult (λ m. nat_cmp m.0 r) ms (Err i) → renamed ms r ≡ None
  absent i within parted = renamed_nowhere ms r (λ k l e. elim (cases_lt k i) [
    | inl below ↦ let z : old_at ms k < r =
        ranked _ r _ (sym ((parted comparisons_rise).0 k (0, 0) (omega arith) below)) in omega arith
    | inr above ↦ let z : r < old_at ms k =
        ranked _ r _ (sym ((parted comparisons_rise).1 k (0, 0) above l)) in omega arith
  ])
