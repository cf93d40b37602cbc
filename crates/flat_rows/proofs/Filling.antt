-- The places while a block is filled, from the first on.
use Rattle.std.proofs.Common.{◌≡◌, ◌≢◌, ℕ, zero, suc, ◌+◌, ◌<◌, List, ◌∷◌, Bool, true, false}
use Rattle.std.proofs.Common.{length, get_or, replicate, slice_set, refl, ap, ◌∙◌, arith}
use Rattle.std.proofs.Common.{get_or-set_other, get_or-set_same, below_more}

pub replicate_set : {X : Type 0} (n i : ℕ) (x : X) → slice_set (replicate n x) i x ≡ replicate n x
replicate_set zero i x = refl
replicate_set (suc n) zero x = refl
replicate_set (suc n) (suc i) x = ap (λ r. x ∷ r) (replicate_set n i x)

pub filled_more : (fs : List Bool) (i : ℕ) → i < length fs →
    ((k : ℕ) → k < i → get_or fs k false ≡ true)
    → (k : ℕ) → k < i + 1 → get_or (slice_set fs i true) k false ≡ true
filled_more fs i within full = below_more _ _
    (λ k lt. let other : k ≢ i = omega arith in
    get_or-set_other fs i k true false other ∙ full k lt)
    (get_or-set_same fs i true false within)
