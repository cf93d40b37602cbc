-- What moves say: where each live clause went, and where it came from.
use Rattle.std.proofs.Common.{◌≡◌, ◌≢◌, ℕ, zero, suc, ◌+◌, ◌<◌, List, [], ◌∷◌, length, map, get_or}
use Rattle.std.proofs.Common.{Some, None, inl, inr, sym, refl, ◌∙◌, ap, subst, arith, zero-add}
use Rattle.std.specs.Prelude.{All}
use Rattle.std.specs.List.Sorted.{IsStrictlyIncreasing}
use Rattle.std.proofs.lemmas.Bool.{cases_eq, cases_lt}
use Rattle.std.proofs.lemmas.List.{get_or-map, length-map}
use Rattle.std.proofs.lemmas.List.Elements.{All-head, All-tail}
use Rattle.std.proofs.lemmas.List.Kept.{AllPairs-from_increasing}
use Rattle.std.proofs.lemmas.Option.{none-some, same_Some}
use Rattle.cnf.specs.Literal.{Literal}
use Rattle.clauses.specs.Slots.{Slots, clause_at, places_from, Renaming, renamed, old_at, new_at}
use Rattle.clauses.specs.Slots.{IsRenaming}
use Rattle.clauses.specs.Moved.{name_or, named}
use Rattle.clauses.proofs.Lookup.{renamed_here, renamed_later, rises_pairs, renamed_at}

-- the place of a move
pub renamed_place : (ms : Renaming) (r q : ℕ) → renamed ms r ≡ Some q
    → (i : ℕ) × (i < length ms) × (old_at ms i ≡ r) × (new_at ms i ≡ q)
renamed_place [] r q e = absurd (cc)
renamed_place (m ∷ ms) r q e = elim (cases_eq m.0 r) [
  | inl same ↦ (0, omega arith, same, same_Some m.1 q (sym (renamed_here m ms r same) ∙ e))
  | inr ne ↦
      let z = renamed_place ms r q (sym (renamed_later m ms r ne) ∙ e) in
      (suc z.0, omega (arith, z.1), z.2, z.3)
]

pub named_listed : (ms : Renaming) (r q : ℕ) → renamed ms r ≡ Some q → named ms r ≡ q
named_listed ms r q e = ap (λ o. name_or o r) e

pub new_rise : (ms : Renaming) → IsStrictlyIncreasing (map (λ m. m.1) ms)
    → (i j : ℕ) → i < j → j < length ms → new_at ms i < new_at ms j
new_rise ms h i j below within =
    let long : length (map (λ m. m.1) ms) ≡ length ms = length-map ms (λ m. m.1) in
    let all : get_or (map (λ m. m.1) ms) i 0 < get_or (map (λ m. m.1) ms) j 0 =
    AllPairs-from_increasing (map (λ m. m.1) ms) h i j 0 below (omega arith) in
    let one = get_or-map (λ (m : ℕ × ℕ). m.1) ms i (0, 0) 0 (omega arith) in
    let other = get_or-map (λ (m : ℕ × ℕ). m.1) ms j (0, 0) 0 within in
    omega (arith, all, one, other)

-- no two clauses get one reference
pub same_origin : (ms : Renaming) (r s q : ℕ) → IsStrictlyIncreasing (map (λ m. m.1) ms)
    → renamed ms r ≡ Some q → renamed ms s ≡ Some q → r ≡ s
same_origin ms r s q h e f =
    let z = renamed_place ms r q e in
    let w = renamed_place ms s q f in
    elim (cases_lt z.0 w.0) [
      | inl lt ↦ absurd (omega (arith, new_rise ms h z.0 w.0 lt w.1, z.3, w.3))
      | inr ge ↦ elim (cases_lt w.0 z.0) [
        | inl lt ↦ absurd (omega (arith, new_rise ms h w.0 z.0 lt z.1, z.3, w.3))
        | inr le ↦
            let same : z.0 ≡ w.0 = omega arith in
            sym z.2 ∙ ap (old_at ms) same ∙ w.2
      ]
    ]

listed : (n : ℕ) (slots : Slots) (ms : Renaming) (r : ℕ) (c : List Literal)
    → map (λ m. m.0) ms ≡ places_from n slots → clause_at slots r ≡ Some c
    → (q : ℕ) × (renamed ms (n + r) ≡ Some q)
listed n [] ms r c e at = absurd (cc)
listed n (None ∷ slots) ms zero c e at = absurd (cc)
listed n (None ∷ slots) ms (suc r) c e at =
    let z = listed (n + 1) slots ms r c e at in
    let same : n + suc r ≡ n + 1 + r = omega arith in
    (z.0, ap (renamed ms) same ∙ z.1)
listed n (Some d ∷ slots) [] r c e at = absurd (cc)
listed n (Some d ∷ slots) (m ∷ ms) zero c e at =
    let here : m.0 ≡ n = cc in
    (m.1, renamed_here m ms (n + 0) (omega arith))
listed n (Some d ∷ slots) (m ∷ ms) (suc r) c e at =
    let here : m.0 ≡ n = cc in
    let rest : map (λ k. k.0) ms ≡ places_from (n + 1) slots = cc in
    let z = listed (n + 1) slots ms r c rest at in
    let same : n + suc r ≡ n + 1 + r = omega arith in
    let ne : m.0 ≢ n + suc r = omega arith in
    (z.0, renamed_later m ms (n + suc r) ne ∙ ap (renamed ms) same ∙ z.1)

-- the place of a live clause stands among the live ones
pub stands : (n : ℕ) (slots : Slots) (ks : List ℕ) (r : ℕ) (c : List Literal)
    → ks ≡ places_from n slots → clause_at slots r ≡ Some c
    → (i : ℕ) × (i < length ks) × (get_or ks i 0 ≡ n + r)
stands n [] ks r c e at = absurd (none-some c at)
stands n (None ∷ slots) ks zero c e at = absurd (none-some c at)
stands n (None ∷ slots) ks (suc r) c e at =
    let z = stands (n + 1) slots ks r c e at in (z.0, z.1, z.2 ∙ omega arith)
stands n (Some d ∷ slots) [] r c e at = absurd (cc)
stands n (Some d ∷ slots) (k ∷ ks) zero c e at =
    let here : k ≡ n = cc in (0, omega arith, here ∙ omega arith)
stands n (Some d ∷ slots) (k ∷ ks) (suc r) c e at =
    let rest : ks ≡ places_from (n + 1) slots = cc in
    let z = stands (n + 1) slots ks r c rest at in
    (suc z.0, (let lt = z.1 in omega arith), z.2 ∙ omega arith)

pub moved_all : (P : ℕ × ℕ → Type 0) (ms : Renaming) (r q : ℕ)
    → All P ms → renamed ms r ≡ Some q → P (r, q)
moved_all P [] r q h e = absurd (none-some q e)
moved_all P (m ∷ ms) r q h e = elim (cases_eq m.0 r) [
  | inl same ↦
      let first : m.1 ≡ q = same_Some m.1 q (sym (renamed_here m ms r same) ∙ e) in
      let pair : ◌≡◌ {A = ℕ × ℕ} m (r, q) = λ i. (same i, first i) in
      subst P pair (All-head P m ms h)
  | inr other ↦ moved_all P ms r q (All-tail P m ms h) (sym (renamed_later m ms r other) ∙ e)
]

module _ (old new : Slots) (ms : Renaming) (renames : IsRenaming old new ms) where
  -- where a live clause went
  pub went : (r : ℕ) (c : List Literal) → clause_at old r ≡ Some c
      → (q : ℕ) × (renamed ms r ≡ Some q)
  went r c e =
      let z = listed 0 old ms r c renames.from e in
      (z.0, ap (renamed ms) (sym (zero-add r)) ∙ z.1)

  -- where it came from
  pub came : IsStrictlyIncreasing (map (λ m. m.0) ms) → (q : ℕ) (c : List Literal)
      → clause_at new q ≡ Some c → (r : ℕ) × (renamed ms r ≡ Some q)
  came rises q c e =
      let z = stands 0 new (map (λ m. m.1) ms) q c renames.to e in
      let long : length (map (λ m. m.1) ms) ≡ length ms = length-map ms (λ m. m.1) in
      let within : z.0 < length ms = let lt = z.1 in omega arith in
      let at : new_at ms z.0 ≡ q =
      sym (get_or-map (λ m. m.1) ms z.0 (0, 0) 0 within) ∙ z.2 ∙ zero-add q in
      let from = renamed_at ms (old_at ms z.0) z.0 (rises_pairs ms rises) within refl in
      (old_at ms z.0, from ∙ ap Some at)

  pub same_clause : (r q : ℕ) → renamed ms r ≡ Some q → clause_at new q ≡ clause_at old r
  same_clause r q e = moved_all (λ m. clause_at new m.1 ≡ clause_at old m.0) ms r q renames.same e
