-- The tokens of a certificate's line, against how a line is spelled.
use Rattle.std.proofs.Common.{◌≡◌, ℕ, zero, suc, ◌<◌, ◌≤◌, ◌^◌, Bool, true, false}
use Rattle.std.proofs.Common.{List, [], ◌∷◌, ◌++◌, map, get_or, Option, Some, None, inl, inr}
use Rattle.std.proofs.Common.{refl, sym, ◌∙◌, ap, subst, arith}
use Rattle.std.proofs.Math.Bool.{cond}
use Rattle.std.proofs.Math.Dec.{ltb}
use Rattle.std.specs.Prelude.{◌==◌}
use Rattle.std.specs.List.{AllByRecursion}
use Rattle.std.specs.Fmt.{decimal}
use Rattle.std.proofs.lemmas.Bool.{eqb-true, ne_eqb}
use Rattle.std.proofs.lemmas.Bool.{ltb-true, lt-ltb, cases_Bool, cond-true}
use Rattle.std.proofs.lemmas.Option.{cond_some}
use Rattle.std.proofs.lemmas.Fmt.{decimal_digit}
use Rattle.std.proofs.lemmas.Fmt.{first_decimal}
use lib.Chars.{codes}
use Rattle.text.specs.Text.{number_of}
use Rattle.cnf.specs.Lrat.{IsId}
use Rattle.text.proofs.Laws.{decimal-number_of, number_of-decimal}
use Rattle.lrat_read.specs.Form.{signed_of, block_of}

-- with its dash, where it has one
abbrev pub spell : Bool × ℕ → List ℕ
spell x = cond x.0 (45 ∷ decimal x.1) (decimal x.1)

unfoldable pub tag : Bool → Option ℕ → Option (Bool × ℕ)
tag s None = None
tag s (Some n) = cond (ltb n 4611686018427387904) (Some (s, n)) None

pub signed_dash : (b : ℕ) (bs : List ℕ) → (b == 45) ≡ true
    → signed_of (b ∷ bs) ≡ tag true (number_of bs)
unfolding tag
signed_dash b bs t =
    elim (number_of bs) as (λ o. number_of bs ≡ o → signed_of (b ∷ bs) ≡ tag true (number_of bs)) [
      | None ↦ λ u. rw (t, u) refl
      | Some n ↦ λ u. rw (t, u) refl
    ] refl

pub signed_plain : (b : ℕ) (bs : List ℕ) → (b == 45) ≡ false
    → signed_of (b ∷ bs) ≡ tag false (number_of (b ∷ bs))
unfolding tag
signed_plain b bs t =
    elim (number_of (b ∷ bs)) as (λ o. number_of (b ∷ bs) ≡ o
    → signed_of (b ∷ bs) ≡ tag false (number_of (b ∷ bs))) [
      | None ↦ λ u. rw (t, u) refl
      | Some n ↦ λ u. rw (t, u) refl
    ] refl

tag_means : (s : Bool) (o : Option ℕ) (x : Bool × ℕ) → tag s o ≡ Some x → (o ≡ Some x.1) × (s ≡ x.0)
    × (x.1 < 2 ^ 62)
unfolding tag
tag_means s None x e = absurd (cc)
tag_means s (Some n) x e =
    let h = cond_some (ltb n 4611686018427387904) (s, n) x e in
    (ap (λ y. Some (y.1)) h.1, ap (λ y. y.0) h.1, subst (λ y. y.1 < 2 ^ 62) h.1 (ltb-true _ _ h.0))

pub signed_means : (t : List ℕ) (x : Bool × ℕ) → signed_of t ≡ Some x
    → (t ≡ spell x) × (x.1 < 2 ^ 62)
signed_means [] x e = absurd (cc)
signed_means (b ∷ bs) x e =
    elim (cases_Bool (b == 45)) [
      | inl t ↦
          let h = tag_means true (number_of bs) x (sym (signed_dash b bs t) ∙ e) in (
            ap (λ c. c ∷ bs) (eqb-true b 45 t)
                ∙ ap (λ ds. 45 ∷ ds) (decimal-number_of bs x.1 h.0 (omega (arith, h.2)))
                ∙ ap (λ s. spell (s, x.1)) h.1,
            h.2,
          )
      | inr f ↦
          let h = tag_means false (number_of (b ∷ bs)) x (sym (signed_plain b bs f) ∙ e) in (
            decimal-number_of (b ∷ bs) x.1 h.0 (omega (arith, h.2))
                ∙ ap (λ s. spell (s, x.1)) h.1,
            h.2,
          )
    ]

pub first_not_dash : (n : ℕ) → n < 2 ^ 62 → 48 ≤ get_or (decimal n) 0 0
first_not_dash zero small = rw (decimal_digit 0 (omega arith)) (omega arith)
first_not_dash (suc n) small = let h = first_decimal (suc n) (omega arith) (omega arith) in
    omega arith

plain_at : (ds : List ℕ) (n : ℕ) → 48 ≤ get_or ds 0 0 → number_of ds ≡ Some n → n < 2 ^ 62
    → signed_of ds ≡ Some (false, n)
unfolding tag
plain_at [] n first e small = absurd (cc)
plain_at (b ∷ bs) n first e small =
    let ne : (b ≡ 45) → ⊥ = λ z. absurd (omega arith) in
    signed_plain b bs (ne_eqb b 45 ne) ∙ ap (tag false) e
    ∙ cond-true (ltb n 4611686018427387904) _ _ (lt-ltb _ _ small)

pub signed_from : (s : Bool) (n : ℕ) → n < 2 ^ 62 → signed_of (spell (s, n)) ≡ Some (s, n)
unfolding tag
signed_from true n small = signed_dash 45 (decimal n) refl
    ∙ ap (tag true) (number_of-decimal n (omega (arith, small)))
    ∙ cond-true (ltb n 4611686018427387904) _ _ (lt-ltb _ _ small)
signed_from false n small =
    plain_at (decimal n) n (first_not_dash n small) (number_of-decimal n (omega (arith, small)))
    small

-- numbers that are not 0, up to the first 0
abbrev pub Signed : Type 0
Signed = List (Bool × ℕ)

abbrev pub HasIds : Signed → Type 0
HasIds xs = AllByRecursion (λ x. IsId x.1) xs

abbrev pub Rest : Type 0
Rest = Option (Signed × List (List ℕ))

pub block_zero : (t : List ℕ) (ts : List (List ℕ)) → signed_of t ≡ Some (false, zero)
    → block_of (t ∷ ts) ≡ Some ([], ts)
block_zero t ts u = rw u refl

pub block_more : (t : List ℕ) (ts : List (List ℕ)) (s : Bool) (n : ℕ) (xs : Signed)
    (rest : List (List ℕ)) → signed_of t ≡ Some (s, suc n) → block_of ts ≡ Some (xs, rest)
    → block_of (t ∷ ts) ≡ Some ((s, suc n) ∷ xs, rest)
block_more t ts true n xs rest u v = rw (u, v) refl
block_more t ts false n xs rest u v = rw (u, v) refl

pub block_more_none : (t : List ℕ) (ts : List (List ℕ)) (s : Bool) (n : ℕ)
    → signed_of t ≡ Some (s, suc n) → block_of ts ≡ None → block_of (t ∷ ts) ≡ None
block_more_none t ts true n u v = rw (u, v) refl
block_more_none t ts false n u v = rw (u, v) refl

abbrev IsBlock : List (List ℕ) → Signed → List (List ℕ) → Type 0
IsBlock ts xs rest = (ts ≡ map spell xs ++ codes "0" ∷ rest) × HasIds xs

pair_parts : (a : Signed) (b : List (List ℕ)) (c : Signed) (d : List (List ℕ))
    → ◌≡◌ {A = Rest} (Some (a, b)) (Some (c, d)) → (a ≡ c) × (b ≡ d)
pair_parts a b c d e =
    let p : ◌≡◌ {A = Signed × List (List ℕ)} (a, b) (c, d) = cc in
    (ap (λ y. y.0) p, ap (λ y. y.1) p)

block_step : (t : List ℕ) (ts : List (List ℕ)) (o : Option (Bool × ℕ)) → signed_of t ≡ o
    → (m : Rest) → block_of ts ≡ m
    → ((ys : Signed) (rest : List (List ℕ)) → block_of ts ≡ Some (ys, rest) → IsBlock ts ys rest)
    → (xs : Signed) (rest : List (List ℕ)) → block_of (t ∷ ts) ≡ Some (xs, rest)
    → IsBlock (t ∷ ts) xs rest
block_step t ts None u m v ih xs rest e = let z : block_of (t ∷ ts) ≡ None = rw u refl in
    absurd (cc)
block_step t ts (Some (true, zero)) u m v ih xs rest e = let z : block_of (t ∷ ts) ≡ None =
    rw u refl in absurd (cc)
block_step t ts (Some (false, zero)) u m v ih xs rest e =
    let z = block_zero t ts u in
    let w = pair_parts [] ts xs rest (sym z ∙ e) in
    let ex = w.0 in
    let er = w.1 in
    subst (λ ys. IsBlock (t ∷ ts) ys rest) ex (
      ap (λ x. x ∷ ts) ((signed_means t (false, zero) u).0
          ∙ decimal_digit 0 (omega arith)) ∙ ap (λ r. codes "0" ∷ r) er,
      tt,
    )
block_step t ts (Some (s, suc n)) u None v ih xs rest e = let z = block_more_none t ts s n u v in
    absurd (cc)
block_step t ts (Some (s, suc n)) u (Some (ys, r)) v ih xs rest e =
    let z = block_more t ts s n ys r u v in
    let w = pair_parts ((s, suc n) ∷ ys) r xs rest (sym z ∙ e) in
    let ex = w.0 in
    let er = w.1 in
    let b = ih ys r v in
    let k = signed_means t (s, suc n) u in
    subst (λ zs. IsBlock (t ∷ ts) zs rest) ex (
      ap (λ x. x ∷ ts) k.0
          ∙ ap (λ x. spell (s, suc n) ∷ x) (b.0 ∙ ap (λ q. map spell ys ++ codes "0" ∷ q) er),
      ((omega arith, k.1), b.1),
    )

pub block_means : (ts : List (List ℕ)) (xs : Signed) (rest : List (List ℕ))
    → block_of ts ≡ Some (xs, rest) → IsBlock ts xs rest
block_means [] xs rest e = absurd (cc)
block_means (t ∷ ts) xs rest e =
    block_step t ts (signed_of t) refl (block_of ts) refl (block_means ts) xs rest e

pub block_from : (xs : Signed) (rest : List (List ℕ)) → HasIds xs
    → block_of (map spell xs ++ codes "0" ∷ rest) ≡ Some (xs, rest)
block_from [] rest h = block_zero (codes "0") rest refl
block_from ((s, zero) ∷ xs) rest h = absurd (omega (arith, h.0.0))
block_from ((s, suc n) ∷ xs) rest h =
    block_more (spell (s, suc n)) (map spell xs ++ codes "0" ∷ rest) s n xs rest
    (signed_from s (suc n) h.0.1) (block_from xs rest h.1)
