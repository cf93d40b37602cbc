-- Numbers that rise, each above the one before it.
use Rattle.std.proofs.Common.{◌≡◌, ℕ, zero, suc, ◌+◌, ◌<◌, ◌≤◌, List, [], ◌∷◌, length, sym, subst}
use Rattle.std.proofs.Common.{arith}
use Rattle.std.specs.Prelude.{slice_index}
use Rattle.std.specs.List.Sorted.{IsStrictlyIncreasing}
use Rattle.cnf.specs.Numbers.{RisesFrom}

pub rises_weaker : (least more : ℕ) (ks : List ℕ) → least ≤ more → RisesFrom more ks
    → RisesFrom least ks
rises_weaker least more [] h r = tt
rises_weaker least more (k ∷ ks) h r = (omega (arith, r.0), r.1)

pub rises_least : (least : ℕ) (ks : List ℕ) (p : ℕ) → RisesFrom least ks → p < length ks
    → least ≤ slice_index ks p
rises_least least [] p r h = absurd (omega arith)
rises_least least (k ∷ ks) zero r h = r.0
rises_least least (k ∷ ks) (suc p) r h =
    omega (arith, r.0, rises_least (k + 1) ks p r.1 (omega arith))

pub rising_from : (least : ℕ) (ks : List ℕ) → RisesFrom least ks → IsStrictlyIncreasing ks
rising_from least [] r k h = absurd (omega arith)
rising_from least (x ∷ ks) r zero h = omega (arith, rises_least (x + 1) ks 0 r.1 (omega arith))
rising_from least (x ∷ ks) r (suc k) h =
    let z : slice_index ks k < slice_index ks (k + 1) =
    rising_from (x + 1) ks r.1 k (omega arith) in
    let e : suc k + 1 ≡ suc (k + 1) = omega arith in
    subst (λ n. slice_index ks k < slice_index (x ∷ ks) n) (sym e) z
