-- The clauses of a sum, one after another.
use Rattle.std.proofs.Common.{◌≡◌, ℕ, zero, suc, ◌+◌, ◌<◌, List, [], ◌∷◌, ◌++◌}
use Rattle.std.proofs.Common.{length, arith, ap, sym, ◌∙◌, refl, append_assoc, false, get_or}
use Rattle.std.specs.Prelude.{Option, Some, None, slice_get}
use Rattle.std.proofs.lemmas.List.{append-nil}
use Rattle.std.proofs.lemmas.Option.{slice_get_past, slice_get_read}
use Rattle.cnf.specs.Literal.{Literal, positive, negation}
use Rattle.totalizer.specs.Stages.{sum_clause, sum_clauses}

-- the clauses for i, i + 1, .. on the left, as many as the last number says
abbrev pub sums_left : List Literal → List Literal → ℕ → ℕ → ℕ → List (List Literal)
sums_left left right v i zero = []
sums_left left right v i (suc j) = sum_clauses left right v i j

module _ (left right : List Literal) (v : ℕ) where
  pub sums_step : (i j : ℕ) → sums_left left right v i (suc j)
      ≡ sum_clause left right v i j ++ sums_left left right v (i + 1) j
  sums_step i zero = sym (append-nil (sum_clause left right v i 0))
  sums_step i (suc j) = refl

  -- past the right list there is no clause
  pub past_right : (i j : ℕ) → length right < j → sum_clause left right v i j ≡ []
  past_right i zero h = absurd (omega arith)
  past_right zero (suc j) h = rw (slice_get_past right j (omega arith)) refl
  past_right (suc i) (suc j) h = by (slice_get left i) refl
    where
      by : (o : Option Literal) → slice_get left i ≡ o
          → sum_clause left right v (suc i) (suc j) ≡ []
      by None e = rw e refl
      by (Some l) e = rw (e, slice_get_past right j (omega arith)) refl

  -- past the left list there is none
  pub past_left : (i j : ℕ) → length left < i → sum_clause left right v i j ≡ []
  past_left zero j h = absurd (omega arith)
  past_left (suc i) j h = rw (slice_get_past left i (omega arith)) refl

  -- the first ones, which are past the right list, make no clause
  pub skipped : (n i m k : ℕ) → k ≡ n + m → (0 < n → length right < m)
      → sums_left left right v i k ≡ sums_left left right v (i + n) m
  skipped zero i m k e h =
      let same : k ≡ m = omega arith in
      let here : i + 0 ≡ i = omega arith in
      rw (same, here) refl
  skipped (suc n) i m k e h =
      let more : k ≡ suc (n + m) = omega arith in
      let next : i + 1 + n ≡ i + suc n = omega arith in
      let far : length right < m = h (omega arith) in
      rw more (sums_step i (n + m)
      ∙ ap (λ c. c ++ sums_left left right v (i + 1) (n + m)) (past_right i (n + m) (omega arith))
      ∙ skipped n (i + 1) m (n + m) refl (λ _. far) ∙ ap (λ a. sums_left left right v a m) next)

  -- the last ones, which are past the left list, make none
  pub over : (n i : ℕ) → (0 < n → length left < i) → sums_left left right v i n ≡ []
  over zero i h = refl
  over (suc n) i h =
      let far : length left < i = h (omega arith) in
      sums_step i n
      ∙ ap (λ c. c ++ sums_left left right v (i + 1) n) (past_left i n far)
      ∙ over n (i + 1) (λ _. omega arith)

  -- one clause more
  pub sum_pushed : (i j n : ℕ) (old now all : List (List Literal)) (c : List Literal)
      → n ≡ suc j → sum_clause left right v i j ≡ c ∷ [] → now ≡ old ++ c ∷ []
      → old ++ sums_left left right v i n ≡ all
      → now ++ sums_left left right v (i + 1) j ≡ all
  sum_pushed i j n old now all c e f g h =
      ap (λ x. x ++ sums_left left right v (i + 1) j) g
      ∙ append_assoc old (c ∷ []) (sums_left left right v (i + 1) j)
      ∙ ap (λ x. old ++ x) (ap (λ x. x ++ sums_left left right v (i + 1) j) (sym f)
      ∙ sym (sums_step i j) ∙ ap (sums_left left right v i) (sym e)) ∙ h

-- the one clause of each kind
module _ (left right : List Literal) (s : Literal) (plain : s.negated ≡ false) where
  itself : positive s.variable ≡ s
  itself = ap (λ b. record { variable = s.variable; negated = b }) (sym plain)

  read : (xs : List Literal) (i k : ℕ) (x : Literal) → k ≡ i → i < length xs
      → x ≡ get_or xs k x → slice_get xs i ≡ Some x
  read xs i k x e h g = slice_get_read xs (length xs) i x refl h (g ∙ ap (λ a. get_or xs a x) e)

  pub right_alone : (i j k : ℕ) (r n : Literal) → i ≡ 0 → j ≡ k + 1 → k < length right
      → r ≡ get_or right k r → n ≡ negation r
      → sum_clause left right s.variable i j ≡ (n ∷ s ∷ []) ∷ []
  right_alone zero zero k r n z e h g f = absurd (omega arith)
  right_alone (suc i) j k r n z e h g f = absurd (omega arith)
  right_alone zero (suc j) k r n z e h g f =
      rw (read right j k r (omega arith) (omega arith) g)
      (λ t. (sym f t ∷ itself t ∷ []) ∷ [])

  pub left_alone : (i j k : ℕ) (l n : Literal) → j ≡ 0 → i ≡ k + 1 → k < length left
      → l ≡ get_or left k l → n ≡ negation l
      → sum_clause left right s.variable i j ≡ (n ∷ s ∷ []) ∷ []
  left_alone zero j k l n z e h g f = absurd (omega arith)
  left_alone (suc i) (suc j) k l n z e h g f = absurd (omega arith)
  left_alone (suc i) zero k l n z e h g f =
      rw (read left i k l (omega arith) (omega arith) g)
      (λ t. (sym f t ∷ itself t ∷ []) ∷ [])

  pub both_sides : (i j a b : ℕ) (l r m n : Literal) → i ≡ a + 1 → j ≡ b + 1 → a < length left
      → b < length right → l ≡ get_or left a l → r ≡ get_or right b r → m ≡ negation l
      → n ≡ negation r → sum_clause left right s.variable i j ≡ (m ∷ n ∷ s ∷ []) ∷ []
  both_sides zero j a b l r m n e f p q x y z u = absurd (omega arith)
  both_sides (suc i) zero a b l r m n e f p q x y z u = absurd (omega arith)
  both_sides (suc i) (suc j) a b l r m n e f p q x y z u =
      rw (
        read left i a l (omega arith) (omega arith) x,
        read right j b r (omega arith) (omega arith) y,
      ) (λ t. (sym z t ∷ sym u t ∷ itself t ∷ []) ∷ [])
