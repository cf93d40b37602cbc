-- Deletions in the plain run.
use Rattle.std.proofs.Common.{◌≡◌, ℕ, ◌+◌, ◌<◌, ◌≤◌, false, List, [], ◌∷◌, map, Some, None, refl}
use Rattle.std.proofs.Common.{sym, ◌∙◌, ap, arith}
use Rattle.std.specs.Prelude.{nat_eq}
use Rattle.std.specs.List.{AllByRecursion, IsDistinct, list_any}
use Rattle.std.proofs.lemmas.Bool.{cond-false, eqb-false, ne_eqb, or_parts}
use Rattle.std.proofs.lemmas.Option.{slice_get_within}
use Rattle.cnf.specs.Literal.{Literal}
use Rattle.cnf.specs.Lrat.{Deletion, Live, Step, without_ids}
use Rattle.lrat_live.specs.Listed.{Listed, listed_at}
use Rattle.lrat_plain.specs.Law.{ChainByHints}
use Rattle.lrat_plain.specs.Names.{Names, forgotten, renumbered}
use Rattle.lrat_plain.proofs.Cases.{forgotten_same}
use Rattle.lrat_plain.proofs.LawLists.{IsLive, Leaves, absent, all_mapped, all_so}
use Rattle.lrat_plain.proofs.LawNumbers.{same_number}
use Rattle.lrat_plain.proofs.LawPlaces.{place_at, place_forgotten}
use Rattle.lrat_plain.proofs.LawStands.{Stands, injective, not_coming}

module _ (later : List (List Literal)) (n : Names) (es : Listed) (last : ℕ) (live : Live)
    (h : Stands later n es last live) where
  -- numbers of different ids
  apart_from : (i : ℕ) (c : List Literal) → listed_at es i ≡ Some c → (js : List ℕ)
      → AllByRecursion (λ j. nat_eq i j ≡ false) js → AllByRecursion (IsLive es) js
      → AllByRecursion (λ k. nat_eq (renumbered n i) k ≡ false) (map (renumbered n) js)
  apart_from i c e [] a b = tt
  apart_from i c e (j ∷ js) a b = (
    ne_eqb (renumbered n i) (renumbered n j)
        (λ z. eqb-false i j a.0 (injective later n es last live h i j c b.0.0 e b.0.1 z)),
    apart_from i c e js a.1 b.1,
  )

  distinct_numbers : (js : List ℕ) → IsDistinct nat_eq js → AllByRecursion (IsLive es) js
      → IsDistinct nat_eq (map (renumbered n) js)
  unfolding IsDistinct
  distinct_numbers [] a b = tt
  distinct_numbers (j ∷ js) a b =
      (apart_from j b.0.0 b.0.1 js a.0 b.1, distinct_numbers js a.1 b.1)

  other_numbers : (i : ℕ) (c : List Literal) → listed_at es i ≡ Some c → (js : List ℕ)
      → list_any (nat_eq i) js ≡ false → AllByRecursion (IsLive es) js
      → AllByRecursion (λ j. renumbered n j ≡ renumbered n i → ⊥) js
  other_numbers i c e [] a b = tt
  other_numbers i c e (j ∷ js) a b =
      let p = or_parts (nat_eq i j) (list_any (nat_eq i) js) a in (
        λ z. eqb-false i j p.0 (sym (injective later n es last live h j i b.0.0 c b.0.1 e z)),
        other_numbers i c e js p.1 b.1,
      )

  module _ (ids : List ℕ) (left : Listed) (l : Leaves es ids left) where
    abbrev gone : List ℕ
    gone = map (renumbered n) ids

    abbrev rest : Live
    rest = without_ids live gone

    abbrev after : Names
    after = forgotten ids n

    same : (after.given ≡ n.given) × (after.all ≡ n.all) × (after.made ≡ n.made)
    same = forgotten_same ids n

    pub deletion_chain : (lead : ℕ) → ChainByHints live (Deletion lead gone ∷ []) rest
    deletion_chain lead =
        let step : Step live (Deletion lead gone) rest = (
          distinct_numbers ids l.distinct l.alive,
          all_mapped (λ k. (c : List Literal) × (live.clause_at k ≡ Some c)) (renumbered n) ids
              (all_so (IsLive es)
              (λ i. (c : List Literal) × (live.clause_at (renumbered n i) ≡ Some c)) ids
              (λ i a. (a.0, h.numbered i a.0 a.1)) l.alive),
          refl,
        ) in
        (rest, step, tt, refl)

    still_there : (k : ℕ) (c : List Literal) → list_any (nat_eq k) gone ≡ false
        → live.clause_at k ≡ Some c → rest.clause_at k ≡ Some c
    still_there k c f e = cond-false (list_any (nat_eq k) gone) None (live.clause_at k) f ∙ e

    left_place : (i k : ℕ) (c : List Literal) → listed_at left i ≡ Some c
        → place_at after.places i ≡ Some k → place_at n.places i ≡ Some k
    left_place i k c e p = sym (place_forgotten ids n i (l.kept i c e).0) ∙ p

    pub deletes : Stands later after left last rest
    deletes = record {
      all = let x = h.all in omega (arith, x, same.0, same.1, same.2);
      within = let w = h.within in omega (arith, w, same.0);
      behind = let b = h.behind in omega (arith, b, same.0, same.1);
      up_to = λ i c e. h.up_to i c (l.kept i c e).1;
      none_above = λ i above.
          place_forgotten ids n i (absent i ids (all_so (IsLive es) (λ j. j ≡ i → ⊥) ids
          (λ j a z. let u = h.up_to j a.0 a.1 in omega (arith, u, above, z)) l.alive))
          ∙ h.none_above i above;
      placed = λ i c k e p.
          let b = h.placed i c k (l.kept i c e).1 (left_place i k c e p) in
          (omega (arith, b.0, same.0), omega (arith, b.1, same.0, same.2));
      single = λ i j c d k e f p q.
          h.single i j c d k (l.kept i c e).1 (l.kept j d f).1 (left_place i k c e p)
          (left_place j k d f q);
      numbered = λ i c e.
          let k = l.kept i c e in
          ap rest.clause_at (same_number n after i same.0 same.1 (place_forgotten ids n i k.0))
          ∙ still_there (renumbered n i) c (absent (renumbered n i) gone
          (all_mapped (λ r. r ≡ renumbered n i → ⊥) (renumbered n) ids
          (other_numbers i c k.1 ids k.0 l.alive)))
          (h.numbered i c k.1);
      coming = λ i c e.
          let k = n.given + n.made + i + 1 in
          let as_before : after.given + after.made + i + 1 ≡ k = omega (arith, same.0, same.2) in
          let x = h.all in
          let lt = slice_get_within later i c e in
          let high : k ≤ n.all = omega (arith, x, lt) in
          let low : n.given + n.made < k = omega arith in
          ap rest.clause_at as_before
          ∙ still_there k c (absent k gone (all_mapped (λ r. r ≡ k → ⊥) (renumbered n) ids
          (all_so (IsLive es) (λ j. renumbered n j ≡ k → ⊥) ids
          (λ j a. not_coming later n es last live h j k a.0 a.1 low high) l.alive)))
          (h.coming i c e);
    }
