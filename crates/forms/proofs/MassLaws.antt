-- How much facts add to a form.
use Rattle.std.proofs.Common.{◌≡◌, ℕ, ◌+◌, ◌*◌, ◌≤◌, ◌^◌, arith}
use Rattle.std.proofs.Math.Nat.{mul-add, mul-le-mul_left}
use Rattle.forms.specs.Kept.{most_mass}

-- twice a weight for each of n literals
pub weighed : (w n : ℕ) → w ≤ 2 ^ 62 → 2 * w * n ≤ 2 ^ 63 * n
weighed w n h =
    let e : 2 * w ≤ 2 ^ 63 = omega arith in
    grind (arith, mul-le-mul_left n e)

-- facts of `size` terms more
pub more_mass : (terms size made mass by : ℕ) → mass ≤ most_mass terms made
    → by ≤ 3 * 2 ^ 62 * size → mass + by ≤ most_mass (terms + size) made
more_mass terms size made mass by h g = grind arith

-- and there is room for them
pub mass_room : (terms made : ℕ) → terms ≤ 2 ^ 32 → made ≤ 2 ^ 22 → most_mass terms made ≤ 2 ^ 120
mass_room terms made h g = grind arith

-- one more output of a count, which takes a clause or more
pub output_mass : (terms made n mass multiplier : ℕ) → mass ≤ most_mass terms made → 1 ≤ n
    → multiplier ≤ terms * 2 ^ 62 → mass + 2 * multiplier ≤ most_mass terms (made + n)
output_mass terms made n mass multiplier h some often =
    let d : terms * (made + n) ≡ terms * made + terms * n = mul-add terms made n in
    let one : terms * 1 ≤ terms * n = mul-le-mul_left terms some in
    grind arith

-- more clauses
pub mass_rises : (terms made n : ℕ) → most_mass terms made ≤ most_mass terms (made + n)
mass_rises terms made n =
    let d : terms * (made + n) ≡ terms * made + terms * n = mul-add terms made n in
    grind arith
