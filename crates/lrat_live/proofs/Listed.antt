-- Live clauses as a list: ids that rise, and the list as a function of ids, where one comes or
-- goes.
use Rattle.std.proofs.Common.{◌≡◌, ℕ, zero, suc, ◌+◌, ◌<◌, ◌≤◌, Bool, true, false, not, List, []}
use Rattle.std.proofs.Common.{◌∷◌, ◌++◌, length, get_or, Option, Some, None, refl, sym, ◌∙◌, ap}
use Rattle.std.proofs.Common.{subst, inl, inr, arith}
use Rattle.std.proofs.Math.Bool.{cond}
use Rattle.std.specs.Prelude.{All, Contains, IsSome, filter, ◌==◌, slice_get}
use Rattle.std.specs.List.{AllByRecursion}
use Rattle.std.proofs.lemmas.Bool.{eq-eqb, ne_eqb, cases_eq, cond-true, cond-false, false≢true}
use Rattle.std.proofs.lemmas.List.Elements.{All-nil, All-cons, All-head, All-tail}
use Rattle.std.proofs.lemmas.List.Kept.{AllPairs-from_increasing}
use Rattle.std.specs.List.{AllPairs}
use Rattle.std.proofs.lemmas.List.Elements.{recursion_from_All}
use Rattle.cnf.specs.Literal.{Literal}
use Rattle.cnf.specs.Formula.{numbered}
use Rattle.cnf.proofs.Laws.{same_number}
use Rattle.lrat_live.specs.Listed.{Listed, ids_of, listed_at, listed_from, without_id, IsRising}

-- each number is below all later ones
abbrev pub Rises : List ℕ → Type 0
Rises [] = Unit {0}
Rises (x ∷ xs) = AllByRecursion (λ y. x < y) xs × Rises xs

pub rises_from_pairs : (xs : List ℕ) → AllPairs (λ x y. x < y) xs → Rises xs
rises_from_pairs [] p = tt
rises_from_pairs (x ∷ xs) p = (
  recursion_from_All (λ y. x < y) xs (λ k d h. p 0 (suc k) d (omega arith) (omega arith)),
  rises_from_pairs xs (λ i j d h k. p (suc i) (suc j) d (omega arith) (omega arith)),
)

pub listed_here : (e : ℕ × List Literal) (es : Listed) (i : ℕ) → e.0 ≡ i
    → listed_at (e ∷ es) i ≡ Some e.1
listed_here e es i h = rw (eq-eqb e.0 i h) refl

pub listed_there : (e : ℕ × List Literal) (es : Listed) (i : ℕ) → (e.0 ≡ i → ⊥)
    → listed_at (e ∷ es) i ≡ listed_at es i
listed_there e es i h = rw (ne_eqb e.0 i h) refl

-- the ids with a literal rise
pub above_kept : (p : ℕ × List Literal → Bool) (x : ℕ) (es : Listed)
    → AllByRecursion (λ y. x < y) (ids_of es) → AllByRecursion (λ y. x < y) (ids_of (filter p es))
above_kept p x [] a = tt
above_kept p x (e ∷ es) a =
    elim (p e) as (λ v. AllByRecursion (λ y. x < y)
    (ids_of (cond v (e ∷ filter p es) (filter p es)))) [
      | true ↦ (a.0, above_kept p x es a.1)
      | false ↦ above_kept p x es a.1
    ]

pub rises_kept : (p : ℕ × List Literal → Bool) (es : Listed) → Rises (ids_of es)
    → Rises (ids_of (filter p es))
rises_kept p [] r = tt
rises_kept p (e ∷ es) r =
    elim (p e) as (λ v. Rises (ids_of (cond v (e ∷ filter p es) (filter p es)))) [
      | true ↦ (above_kept p e.0 es r.0, rises_kept p es r.1)
      | false ↦ rises_kept p es r.1
    ]

pub rises_from : (es : Listed) → IsRising es → Rises (ids_of es)
rises_from es h = rises_from_pairs (ids_of es) (AllPairs-from_increasing (ids_of es) h)

-- an increasing list, by its pairs
pub increasing_from_rises : (xs : List ℕ) → Rises xs → (k : ℕ) → k + 1 < length xs
    → get_or xs k 0 < get_or xs (k + 1) 0
increasing_from_rises [] r k h = absurd (omega arith)
increasing_from_rises (x ∷ []) r k h = absurd (omega arith)
increasing_from_rises (x ∷ y ∷ xs) r zero h = r.0.0
increasing_from_rises (x ∷ y ∷ xs) r (suc k) h =
    let next : suc (k + 1) ≡ suc k + 1 = omega arith in
    subst (λ m. get_or (y ∷ xs) k 0 < get_or (x ∷ y ∷ xs) m 0) next
    (increasing_from_rises (y ∷ xs) r.1 k (omega arith))

pub rises_push : (es : Listed) (e : ℕ × List Literal) → Rises (ids_of es) → All (λ x. x.0 < e.0) es
    → Rises (ids_of (es ++ e ∷ []))
rises_push [] e r h = (tt, tt)
rises_push (x ∷ es) e r h = (
  above_push x.0 es e r.0 (All-head (λ y. y.0 < e.0) x es h),
  rises_push es e r.1 (All-tail (λ y. y.0 < e.0) x es h),
)
  where
    above_push : (x : ℕ) (es : Listed) (e : ℕ × List Literal)
        → AllByRecursion (λ y. x < y) (ids_of es) → x < e.0
        → AllByRecursion (λ y. x < y) (ids_of (es ++ e ∷ []))
    above_push x [] e a h = (h, tt)
    above_push x (y ∷ es) e a h = (a.0, above_push x es e a.1 h)

-- the list as a function of ids, where one comes or goes
pub listed_at-push : (es : Listed) (id : ℕ) (c : List Literal) → All (λ e. e.0 < id) es → (j : ℕ)
    → listed_at (es ++ (id, c) ∷ []) j ≡ cond (j == id) (Some c) (listed_at es j)
listed_at-push [] id c h j = ap (λ b. cond b (Some c) None) (same_number id j)
listed_at-push (e ∷ es) id c h j =
    let below : e.0 < id = All-head (λ x. x.0 < id) e es h in
    elim (cases_eq e.0 j) [
      | inl t ↦ listed_here e (es ++ (id, c) ∷ []) j t
          ∙ sym (cond-false (j == id) (Some c) (listed_at (e ∷ es) j)
          (ne_eqb j id (λ z. absurd (omega arith))) ∙ listed_here e es j t)
      | inr f ↦ listed_there e (es ++ (id, c) ∷ []) j f
          ∙ listed_at-push es id c (All-tail (λ x. x.0 < id) e es h) j
          ∙ ap (cond (j == id) (Some c)) (sym (listed_there e es j f))
    ]

pub listed_at-without : (i : ℕ) (es : Listed) (j : ℕ)
    → listed_at (without_id i es) j ≡ cond (j == i) None (listed_at es j)
listed_at-without i [] j =
    elim (j == i) as (λ v. ◌≡◌ {A = Option (List Literal)} None (cond v None None)) [
      | true ↦ refl
      | false ↦ refl
    ]
listed_at-without i (e ∷ es) j =
    elim (cases_eq e.0 i) [
      | inl t ↦
          rw (eq-eqb e.0 i t) (listed_at-without i es j ∙ elim (cases_eq j i) [
            | inl s ↦ cond-true (j == i) None (listed_at es j) (eq-eqb j i s)
                ∙ sym (cond-true (j == i) None (listed_at (e ∷ es) j) (eq-eqb j i s))
            | inr n ↦ ap (cond (j == i) None) (sym (listed_there e es j (λ z. n (sym z ∙ t))))
          ])
      | inr f ↦
          rw (ne_eqb e.0 i f) (elim (cases_eq e.0 j) [
            | inl s ↦ listed_here e (without_id i es) j s
                ∙ sym (cond-false (j == i) None (listed_at (e ∷ es) j) (ne_eqb j i (λ z. f (s ∙ z)))
                ∙ listed_here e es j s)
            | inr n ↦ listed_there e (without_id i es) j n ∙ listed_at-without i es j
                ∙ ap (cond (j == i) None) (sym (listed_there e es j n))
          ])
    ]

-- a formula's clauses
listed_before : (n : ℕ) (cs : List (List Literal)) (i : ℕ) → i < n
    → listed_at (listed_from n cs) i ≡ None
listed_before n [] i h = refl
listed_before n (c ∷ cs) i h =
    listed_there (n, c) (listed_from (n + 1) cs) i (λ z. absurd (omega arith))
    ∙ listed_before (n + 1) cs i (omega arith)

listed_after : (cs : List (List Literal)) (n k i : ℕ) → i ≡ n + k
    → listed_at (listed_from n cs) i ≡ slice_get cs k
listed_after [] n k i e = refl
listed_after (c ∷ cs) n zero i e = listed_here (n, c) (listed_from (n + 1) cs) i (omega arith)
listed_after (c ∷ cs) n (suc k) i e =
    listed_there (n, c) (listed_from (n + 1) cs) i (λ z. absurd (omega arith))
    ∙ listed_after cs (n + 1) k i (omega arith)

pub listed_numbered : (cs : List (List Literal)) (i : ℕ)
    → listed_at (listed_from 1 cs) i ≡ numbered cs i
listed_numbered cs zero = listed_before 1 cs 0 (omega arith)
listed_numbered cs (suc i) = listed_after cs 1 i (suc i) (omega arith)

pub rises_listed : (n : ℕ) (cs : List (List Literal)) → Rises (ids_of (listed_from n cs))
rises_listed n [] = tt
rises_listed n (c ∷ cs) = (above_listed n (n + 1) cs (omega arith), rises_listed (n + 1) cs)
  where
    above_listed : (x n : ℕ) (cs : List (List Literal)) → x < n
        → AllByRecursion (λ y. x < y) (ids_of (listed_from n cs))
    above_listed x n [] h = tt
    above_listed x n (c ∷ cs) h = (h, above_listed x (n + 1) cs (omega arith))

-- a list of live clauses stays rising
pub rising_start : (cs : List (List Literal)) → IsRising (listed_from 1 cs)
rising_start cs = increasing_from_rises (ids_of (listed_from 1 cs)) (rises_listed 1 cs)

pub rising_push : (es : Listed) (id : ℕ) (c : List Literal) → IsRising es → All (λ e. e.0 < id) es
    → IsRising (es ++ (id, c) ∷ [])
rising_push es id c r h =
    increasing_from_rises (ids_of (es ++ (id, c) ∷ [])) (rises_push es (id, c) (rises_from es r) h)

pub rising_without : (i : ℕ) (es : Listed) → IsRising es → IsRising (without_id i es)
rising_without i es r =
    increasing_from_rises (ids_of (without_id i es))
    (rises_kept (λ e. not (e.0 == i)) es (rises_from es r))

pub listed_from-all : (P : ℕ × List Literal → Type 0) (n : ℕ) (cs : List (List Literal))
    → ((k : ℕ) (c : List Literal) → n ≤ k → k < n + length cs → Contains cs c → P (k, c))
    → All P (listed_from n cs)
listed_from-all P n [] f = All-nil P
listed_from-all P n (c ∷ cs) f =
    All-cons P (n, c) (listed_from (n + 1) cs)
    (f n c (omega arith) (omega arith) (0, omega arith, refl))
    (listed_from-all P (n + 1) cs (λ k d h i m. f k d (omega arith) (omega arith) (
      suc m.0,
      omega arith,
      m.2,
    )))

-- one deletion of several
pub some_of : (o : Option (List Literal)) → IsSome o → (c : List Literal) × (o ≡ Some c)
some_of None h = absurd (false≢true h)
some_of (Some c) h = (c, refl)
