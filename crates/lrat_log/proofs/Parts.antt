-- A list in two parts.
use Rattle.std.proofs.Common.{◌≡◌, ℕ, ◌+◌, ◌-◌, ◌<◌, ◌≤◌, List, ◌++◌, length, take, drop}
use Rattle.std.proofs.Common.{min, inl, inr, arith, sym, ap, subst, ◌∙◌, append-nil, get_or}
use Rattle.std.proofs.Common.{length-append}
use Rattle.std.specs.Prelude.{slice_range}
use Rattle.std.proofs.lemmas.Bool.{cases_lt}
use Rattle.std.proofs.lemmas.List.{drop-append-le, length-drop, take_all, get_or_append_left}
use Rattle.std.proofs.lemmas.List.{get_or-append-add, take-append-le}
use Rattle.std.proofs.Math.Seq.{drop-append-add, take-append-add}
use Rattle.cnf.proofs.Laws.{range-append}

module _ {X : Type 0} (xs ys : List X) (i j : ℕ) (h : i ≤ j) where
  abbrev split : List X
  split = slice_range xs (min i (length xs)) (min j (length xs))
      ++ slice_range ys (i - length xs) (j - length xs)

  before : j ≤ length xs → slice_range (xs ++ ys) i j ≡ split
  before p =
      let a : min i (length xs) ≡ i = omega arith in
      let b : min j (length xs) ≡ j = omega arith in
      let c : i - length xs ≡ 0 = omega arith in
      let d : j - length xs ≡ 0 = omega arith in
      rw (a, b, c, d) (range-append xs ys i j h p ∙ sym (append-nil (slice_range xs i j)))

  after : length xs ≤ i → slice_range (xs ++ ys) i j ≡ split
  after p =
      let a : min i (length xs) ≡ length xs = omega arith in
      let b : min j (length xs) ≡ length xs = omega arith in
      let c : length xs - length xs ≡ 0 = omega arith in
      let d : length xs + (i - length xs) ≡ i = omega arith in
      let e : j - length xs - (i - length xs) ≡ j - i = omega arith in
      let f = drop-append-add xs ys (i - length xs) in
      rw (a, b, c, e) (ap (take (j - i)) (ap (λ k. drop k (xs ++ ys)) (sym d) ∙ f))

  across : i < length xs → length xs < j → slice_range (xs ++ ys) i j ≡ split
  across p q =
      let a : min i (length xs) ≡ i = omega arith in
      let b : min j (length xs) ≡ length xs = omega arith in
      let c : i - length xs ≡ 0 = omega arith in
      let g : j - length xs - 0 ≡ j - length xs = omega arith in
      let d = length-drop i xs in
      let e : j - i ≡ length (drop i xs) + (j - length xs) = omega arith in
      let f = take_all (length xs - i) (drop i xs) (omega arith) in
      rw (a, b, c, g, f, drop-append-le i xs ys (omega arith), e)
      (take-append-add (drop i xs) ys (j - length xs))

-- what lies between two places
pub range_split : {X : Type 0} (xs ys : List X) (i j : ℕ) → i ≤ j
    → slice_range (xs ++ ys) i j ≡ slice_range xs (min i (length xs)) (min j (length xs))
    ++ slice_range ys (i - length xs) (j - length xs)
range_split xs ys i j h = elim (cases_lt (length xs) j) [
  | inr p ↦ before xs ys i j h p
  | inl p ↦ elim (cases_lt i (length xs)) [
    | inl q ↦ across xs ys i j h q p
    | inr q ↦ after xs ys i j h q
  ]
]

-- the first ones
pub take_split : {X : Type 0} (xs ys : List X) (n : ℕ)
    → take n (xs ++ ys) ≡ take n xs ++ take (n - length xs) ys
take_split xs ys n = elim (cases_lt (length xs) n) [
  | inl p ↦
      let e : length xs + (n - length xs) ≡ n = omega arith in
      ap (λ k. take k (xs ++ ys)) (sym e) ∙ take-append-add xs ys (n - length xs)
      ∙ ap (λ zs. zs ++ take (n - length xs) ys) (sym (take_all n xs (omega arith)))
  | inr p ↦
      let e : n - length xs ≡ 0 = omega arith in
      rw e (take-append-le n xs ys p ∙ sym (append-nil (take n xs)))
]

-- what stands at a place
pub record Stands {X : Type 0} (xs : List X) (k : ℕ) (x : X) : Type 0 where
  pub within : k < length xs
  pub here : x ≡ get_or xs k x

module _ {X : Type 0} (xs ys whole : List X) (joined : xs ++ ys ≡ whole) (i : ℕ) (x : X) where
  pub stands_first : i < length xs → x ≡ get_or xs i x → Stands whole i x
  stands_first lt is =
      subst (λ zs. Stands zs i x) joined
      (record {
        within = omega (arith, length-append xs ys);
        here = is ∙ sym (get_or_append_left xs ys x i lt);
      })

  pub stands_last : i < length ys → x ≡ get_or ys i x
      → Stands whole (length whole - length ys + i) x
  stands_last lt is =
      let n = length-append xs ys in
      let e : length (xs ++ ys) - length ys + i ≡ length xs + i = omega arith in
      subst (λ zs. Stands zs (length zs - length ys + i) x) joined
      (rw e (record {
        within = omega arith;
        here = is ∙ sym (get_or-append-add xs ys i x);
      }))
