-- The least sums of terms: how large they are, and how they change.
use Rattle.std.proofs.Common.{◌≡◌, ℕ, zero, suc, ℤ, pos, negsuc, ◌+ℤ◌, ◌-ℤ◌, ◌*ℤ◌, ◌+◌, ◌*◌, ◌<◌}
use Rattle.std.proofs.Common.{◌≤◌, List, [], ◌∷◌, ◌++◌, Option, Some, None, Bool, true, false}
use Rattle.std.proofs.Common.{length, get_or, set, replicate, arith, refl, sym, ap, ◌∙◌, neg_ℤ}
use Rattle.std.specs.List.{sum_by}
use Rattle.std.specs.Int.RustNames.{unsigned_abs}
use Rattle.std.proofs.Math.IntN.{suc_ℤ-*ℤ, zero-*ℤ, *ℤ-zero}
use Rattle.std.proofs.lemmas.Int.{ints, unsigned_abs-mul}
use Rattle.std.proofs.lemmas.List.{set-get_or}
use Rattle.std.proofs.lemmas.List.Sums.{sum_by-cons}
use Rattle.linear.specs.Linear.{least_term}
use Rattle.linear.specs.Costs.{least_sum}

pub plus_small : (a b : ℤ) → unsigned_abs (a +ℤ b) ≤ unsigned_abs a + unsigned_abs b
plus_small a b = grind (arith, ints)

term_small : (c : ℤ) (f : Option Bool) → unsigned_abs (least_term c f) ≤ unsigned_abs c
term_small (pos n) None = omega (arith, ints)
term_small (negsuc n) None = omega (arith, ints)
term_small c (Some true) = omega arith
term_small c (Some false) = omega arith

pub scaled_small : (s : ℕ) (c r : ℤ)
    → unsigned_abs ((pos s *ℤ c) +ℤ r) ≤ s * unsigned_abs c + unsigned_abs r
scaled_small s c r = omega (arith, plus_small (pos s *ℤ c) r, unsigned_abs-mul (pos s) c)

pub sum_small : (s : ℕ) (cs rs : List ℤ) (fs : List (Option Bool))
    → unsigned_abs (least_sum s cs rs fs)
    ≤ s * sum_by unsigned_abs cs + sum_by unsigned_abs rs
sum_small s [] rs fs = omega arith
sum_small s (c ∷ cs) [] fs = omega arith
sum_small s (c ∷ cs) (r ∷ rs) [] = omega arith
sum_small s (c ∷ cs) (r ∷ rs) (f ∷ fs) =
    let x = (pos s *ℤ c) +ℤ r in
    let e = ap (λ y. s * y) (sum_by-cons unsigned_abs c cs) in
    let d = sum_by-cons unsigned_abs r rs in
    omega (
      arith,
      plus_small (least_term x f) (least_sum s cs rs fs),
      term_small x f,
      scaled_small s c r,
      sum_small s cs rs fs,
      e,
      d,
    )

-- the least that a variable gives
abbrev pub least_at : ℕ → ℤ → ℤ → Option Bool → ℤ
least_at s c r f = least_term ((pos s *ℤ c) +ℤ r) f

pub sum_set : (s : ℕ) (cs rs : List ℤ) (fs : List (Option Bool)) (v : ℕ) (c r : ℤ)
    (f : Option Bool) → length cs ≡ length fs → length rs ≡ length fs → v < length fs
    → least_sum s (set cs v c) (set rs v r) (set fs v f)
    +ℤ least_at s (get_or cs v (pos 0)) (get_or rs v (pos 0)) (get_or fs v None)
    ≡ least_sum s cs rs fs +ℤ least_at s c r f
sum_set s [] rs [] v c r f d e lt = absurd (omega (arith, lt))
sum_set s [] rs (g ∷ fs) v c r f d e lt = absurd (omega (arith, d))
sum_set s (b ∷ cs) rs [] v c r f d e lt = absurd (omega (arith, d))
sum_set s (b ∷ cs) [] (g ∷ fs) v c r f d e lt = absurd (omega (arith, e))
sum_set s (b ∷ cs) (q ∷ rs) (g ∷ fs) zero c r f d e lt = omega (arith, ints)
sum_set s (b ∷ cs) (q ∷ rs) (g ∷ fs) (suc v) c r f d e lt =
    let i = sum_set s cs rs fs v c r f (omega (arith, d)) (omega (arith, e)) (omega (arith, lt)) in
    omega (arith, ints, i)

-- where one of the three changes
pub sum_set_cost : (s : ℕ) (cs rs : List ℤ) (fs : List (Option Bool)) (v : ℕ) (c : ℤ)
    → length cs ≡ length fs → length rs ≡ length fs → v < length fs
    → least_sum s (set cs v c) rs fs
    +ℤ least_at s (get_or cs v (pos 0)) (get_or rs v (pos 0)) (get_or fs v None)
    ≡ least_sum s cs rs fs +ℤ least_at s c (get_or rs v (pos 0)) (get_or fs v None)
sum_set_cost s cs rs fs v c d e lt =
    rw (set-get_or rs v (pos 0), set-get_or fs v None)
    at (sum_set s cs rs fs v c (get_or rs v (pos 0)) (get_or fs v None) d e lt)

pub sum_set_added : (s : ℕ) (cs rs : List ℤ) (fs : List (Option Bool)) (v : ℕ) (r : ℤ)
    → length cs ≡ length fs → length rs ≡ length fs → v < length fs
    → least_sum s cs (set rs v r) fs
    +ℤ least_at s (get_or cs v (pos 0)) (get_or rs v (pos 0)) (get_or fs v None)
    ≡ least_sum s cs rs fs +ℤ least_at s (get_or cs v (pos 0)) r (get_or fs v None)
sum_set_added s cs rs fs v r d e lt =
    rw (set-get_or cs v (pos 0), set-get_or fs v None)
    at (sum_set s cs rs fs v (get_or cs v (pos 0)) r (get_or fs v None) d e lt)

pub sum_set_value : (s : ℕ) (cs rs : List ℤ) (fs : List (Option Bool)) (v : ℕ)
    (f : Option Bool) → length cs ≡ length fs → length rs ≡ length fs → v < length fs
    → least_sum s cs rs (set fs v f)
    +ℤ least_at s (get_or cs v (pos 0)) (get_or rs v (pos 0)) (get_or fs v None)
    ≡ least_sum s cs rs fs +ℤ least_at s (get_or cs v (pos 0)) (get_or rs v (pos 0)) f
sum_set_value s cs rs fs v f d e lt =
    rw (set-get_or cs v (pos 0), set-get_or rs v (pos 0))
    at (sum_set s cs rs fs v (get_or cs v (pos 0)) (get_or rs v (pos 0)) f d e lt)

-- the cost is of no account where it is taken no times
pub sum_none : (cs bs rs : List ℤ) (fs : List (Option Bool)) → length cs ≡ length bs
    → least_sum 0 cs rs fs ≡ least_sum 0 bs rs fs
sum_none [] [] rs fs e = refl
sum_none [] (b ∷ bs) rs fs e = absurd (omega (arith, e))
sum_none (c ∷ cs) [] rs fs e = absurd (omega (arith, e))
sum_none (c ∷ cs) (b ∷ bs) [] fs e = refl
sum_none (c ∷ cs) (b ∷ bs) (r ∷ rs) [] e = refl
sum_none (c ∷ cs) (b ∷ bs) (r ∷ rs) (f ∷ fs) e =
    let d : ((pos 0 *ℤ c) +ℤ r) ≡ ((pos 0 *ℤ b) +ℤ r) = omega (arith, ints) in
    let i = sum_none cs bs rs fs (omega (arith, e)) in
    omega (arith, ints, i, ap (λ x. least_term x f) d)

pub distributes : (s : ℕ) (a b : ℤ) → pos s *ℤ (a +ℤ b) ≡ (pos s *ℤ a) +ℤ (pos s *ℤ b)
distributes zero a b = omega (arith, ints, zero-*ℤ (a +ℤ b), zero-*ℤ a, zero-*ℤ b)
distributes (suc s) a b =
    let n = pos s in
    omega (arith, ints, distributes s a b, suc_ℤ-*ℤ n (a +ℤ b), suc_ℤ-*ℤ n a, suc_ℤ-*ℤ n b)

negative_least : (m : ℕ) → least_term (neg_ℤ (pos m)) None ≡ neg_ℤ (pos m)
negative_least zero = refl
negative_least (suc n) = omega (arith, ints)

nothing_beside : (s : ℕ) (c : ℤ) (f : Option Bool)
    → least_term ((pos s *ℤ c) +ℤ pos 0) f ≡ pos s *ℤ least_term c f
nothing_beside s c (Some true) = omega (arith, ints)
nothing_beside s c (Some false) = sym (*ℤ-zero (pos s))
nothing_beside s (pos n) None = sym (*ℤ-zero (pos s))
nothing_beside s (negsuc n) None =
    let e : ((pos s *ℤ negsuc n) +ℤ pos 0) ≡ pos s *ℤ negsuc n = omega (arith, ints) in
    let d : (pos 0 -ℤ pos (n + 1)) ≡ negsuc n = omega (arith, ints) in
    ap (λ x. least_term x None) e ∙ negative_least (s * suc n) ∙ ap (λ x. pos s *ℤ x) (sym d)

term_scaled : (s : ℕ) (c : ℤ) (f : Option Bool)
    → least_term ((pos s *ℤ c) +ℤ pos 0) f ≡ pos s *ℤ least_term ((pos 1 *ℤ c) +ℤ pos 0) f
term_scaled s c f =
    let e : ((pos 1 *ℤ c) +ℤ pos 0) ≡ c = omega (arith, ints) in
    nothing_beside s c f ∙ ap (λ x. pos s *ℤ least_term x f) (sym e)

pub sum_scaled : (s n : ℕ) (cs : List ℤ) (fs : List (Option Bool))
    → least_sum s cs (replicate n (pos 0)) fs
    ≡ pos s *ℤ least_sum 1 cs (replicate n (pos 0)) fs
sum_scaled s n [] fs = sym (*ℤ-zero (pos s))
sum_scaled s zero (c ∷ cs) fs = sym (*ℤ-zero (pos s))
sum_scaled s (suc n) (c ∷ cs) [] = sym (*ℤ-zero (pos s))
sum_scaled s (suc n) (c ∷ cs) (f ∷ fs) =
    let x = least_term ((pos 1 *ℤ c) +ℤ pos 0) f in
    let d = distributes s x (least_sum 1 cs (replicate n (pos 0)) fs) in
    omega (arith, ints, d, term_scaled s c f, sum_scaled s n cs fs)

pub sum_widened : (s n : ℕ) (cs rs : List ℤ) (fs : List (Option Bool))
    → length cs ≡ length fs → length rs ≡ length fs
    → least_sum s (cs ++ replicate n (pos 0)) (rs ++ replicate n (pos 0)) (fs ++ replicate n None)
    ≡ least_sum s cs rs fs
sum_widened s zero [] [] [] d e = refl
sum_widened s (suc n) [] [] [] d e =
    let i = sum_widened s n [] [] [] refl refl in
    let z : ((pos s *ℤ pos 0) +ℤ pos 0) ≡ pos 0 = omega (arith, ints) in
    omega (arith, ints, i, ap (λ x. least_term x None) z)
sum_widened s n [] (r ∷ rs) [] d e = absurd (omega (arith, e))
sum_widened s n [] rs (f ∷ fs) d e = absurd (omega (arith, d))
sum_widened s n (c ∷ cs) rs [] d e = absurd (omega (arith, d))
sum_widened s n (c ∷ cs) [] (f ∷ fs) d e = absurd (omega (arith, e))
sum_widened s n (c ∷ cs) (r ∷ rs) (f ∷ fs) d e =
    let i = sum_widened s n cs rs fs (omega (arith, d)) (omega (arith, e)) in
    omega (arith, ints, i)
