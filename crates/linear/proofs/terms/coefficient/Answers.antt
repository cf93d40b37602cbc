-- A product of numbers below 2^62, with at most 2^120 on top: it is far below 2^127.
use Rattle.std.proofs.Common.{arith, ap, ◌∙◌, to_z, of_z, w64, ◌≡◌, ℕ, ℤ, pos, ◌+ℤ◌, ◌*ℤ◌, ◌*◌}
use Rattle.std.proofs.Common.{◌≤◌, ◌^◌}
use Rattle.std.specs.Int.RustNames.{unsigned_abs}
use Rattle.std.proofs.Math.Nat.{mul-le-mul}
use Rattle.std.proofs.lemmas.Int.{fits_signed_from_abs, to_z-of_z, unsigned_abs-mul}
use mir.Syntax.{w128}
use mir.Val.{SFits}
use Rattle.linear.specs.Terms.{AreSmall}
use Rattle.linear.proofs.Sums.{plus_small}
use Rattle.linear.proofs.terms.coefficient.Goals as goal

times_small : (s : ℕ) (c r : ℤ) → AreSmall s c r → unsigned_abs (pos s *ℤ c) ≤ 2 ^ 124
times_small s c r h =
    let p : s * unsigned_abs c ≤ 2 ^ 62 * 2 ^ 62 =
    mul-le-mul {n₂ = 2 ^ 62} {m₂ = 2 ^ 62} (omega (arith, h.times)) (omega (arith, h.cost)) in
    omega (arith, p, unsigned_abs-mul (pos s) c)

whole_small : (s : ℕ) (c r : ℤ) → AreSmall s c r → unsigned_abs ((pos s *ℤ c) +ℤ r) ≤ 2 ^ 125
whole_small s c r h = omega (arith, times_small s c r h, plus_small (pos s *ℤ c) r, h.added)

times_fits : (s : ℕ) (c r : ℤ) → AreSmall s c r → SFits w128 (pos s *ℤ c)
times_fits s c r h = fits_signed_from_abs w128 (pos s *ℤ c) (omega (arith, times_small s c r h))

whole_fits : (s : ℕ) (c r : ℤ) → AreSmall s c r → SFits w128 ((pos s *ℤ c) +ℤ r)
whole_fits s c r h =
    fits_signed_from_abs w128 ((pos s *ℤ c) +ℤ r) (omega (arith, whole_small s c r h))

-- what the code computes
times_is : (s : ℕ) (c r : ℤ) → AreSmall s c r → SFits w64 c
    → to_z w128 (of_z w128 (pos s)) *ℤ to_z w128 (of_z w128 (to_z w64 (of_z w64 c))) ≡ pos s *ℤ c
times_is s c r h f =
    let a = to_z-of_z w128 (pos s) (fits_signed_from_abs w128 (pos s) (omega (arith, h.times))) in
    let b = to_z-of_z w64 c f in
    let d = to_z-of_z w128 c (fits_signed_from_abs w128 c (omega (arith, h.cost))) in simp (a, b, d)

whole_is : (s : ℕ) (c r : ℤ) → AreSmall s c r → SFits w64 c → SFits w128 r
    → to_z w128 (of_z w128 (to_z w128 (of_z w128 (pos s))
    *ℤ to_z w128 (of_z w128 (to_z w64 (of_z w64 c)))))
    +ℤ to_z w128 (of_z w128 r) ≡ (pos s *ℤ c) +ℤ r
whole_is s c r h f g =
    let a = times_is s c r h f in
    let b = to_z-of_z w128 (pos s *ℤ c) (times_fits s c r h) in
    let d = to_z-of_z w128 r g in simp (a, b, d)

result_is : (s : ℕ) (c r : ℤ) → AreSmall s c r → SFits w64 c → SFits w128 r
    → to_z w128 (of_z w128 (to_z w128 (of_z w128 (to_z w128 (of_z w128 (pos s))
    *ℤ to_z w128 (of_z w128 (to_z w64 (of_z w64 c)))))
    +ℤ to_z w128 (of_z w128 r))) ≡ (pos s *ℤ c) +ℤ r
result_is s c r h f g =
    ap (λ z. to_z w128 (of_z w128 z)) (whole_is s c r h f g)
    ∙ to_z-of_z w128 ((pos s *ℤ c) +ℤ r) (whole_fits s c r h)

pub overflow_mul-result : goal.overflow_mul-result
overflow_mul-result c =
    rw (times_is c.args.scale c.args.cost c.args.added c.requires c.ranges.cost)
    (times_fits c.args.scale c.args.cost c.args.added c.requires)

pub overflow_add-result : goal.overflow_add-result
overflow_add-result c =
    rw (whole_is c.args.scale c.args.cost c.args.added c.requires c.ranges.cost c.ranges.added)
    (whole_fits c.args.scale c.args.cost c.args.added c.requires)

pub returns-clause-value : goal.returns-clause-value
returns-clause-value c =
    result_is c.args.scale c.args.cost c.args.added c.requires c.ranges.cost c.ranges.added

pub returns-clause-bound : goal.returns-clause-bound
returns-clause-bound c =
    rw (result_is c.args.scale c.args.cost c.args.added c.requires c.ranges.cost c.ranges.added)
    (whole_small c.args.scale c.args.cost c.args.added c.requires)
