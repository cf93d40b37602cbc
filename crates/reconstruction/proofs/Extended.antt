-- Bits with the values of eliminated variables: as many as before, and the others keep theirs.
use Rattle.std.proofs.Common.{◌≡◌, ℕ, zero, suc, Bool, false, ◌+◌, ◌-◌, ◌<◌, List, [], ◌∷◌, ◌++◌}
use Rattle.std.proofs.Common.{length, refl, ◌∙◌, ap, arith}
use Rattle.std.specs.Prelude.{◌==◌, All, slice_get, slice_set}
use Rattle.std.specs.List.{AllByRecursion}
use Rattle.std.proofs.lemmas.Bool.{both_ways, eq-eqb, or_parts}
use Rattle.std.proofs.lemmas.List.{length-set}
use Rattle.std.proofs.lemmas.List.Elements.{All-head, All-tail}
use Rattle.cnf.specs.Bits.{assignment_of}
use Rattle.reconstruction.specs.Removals.{Removed, becomes_true, extended, is_eliminated}

pub length-extended : (rs : List Removed) (bits : List Bool)
    → length (extended rs bits) ≡ length bits
length-extended [] bits = refl
length-extended (r ∷ rs) bits = length-set (extended rs bits) (r.variable - 1) _
    ∙ length-extended rs bits

pub extended-append : (rs qs : List Removed) (bits : List Bool)
    → extended (rs ++ qs) bits ≡ extended rs (extended qs bits)
extended-append [] qs bits = refl
extended-append (r ∷ rs) qs bits =
    ap (λ x. slice_set x (r.variable - 1) (becomes_true (assignment_of x) r))
    (extended-append rs qs bits)

slice_get-set_other : (bits : List Bool) (i v : ℕ) (b : Bool) → (i ≡ v → ⊥)
    → slice_get (slice_set bits i b) v ≡ slice_get bits v
slice_get-set_other [] i v b n = refl
slice_get-set_other (x ∷ bits) zero zero b n = absurd (n refl)
slice_get-set_other (x ∷ bits) zero (suc v) b n = refl
slice_get-set_other (x ∷ bits) (suc i) zero b n = refl
slice_get-set_other (x ∷ bits) (suc i) (suc v) b n =
    slice_get-set_other bits i v b (λ e. n (ap suc e))

-- the other variables keep their values, where the eliminated ones are from 1
pub extended-others : (rs : List Removed) (bits : List Bool) (v : ℕ)
    → AllByRecursion (λ r. 0 < r.variable) rs → is_eliminated rs (v + 1) ≡ false
    → slice_get (extended rs bits) v ≡ slice_get bits v
extended-others [] bits v some e = refl
extended-others (r ∷ rs) bits v some e =
    let h = or_parts (r.variable == v + 1) (is_eliminated rs (v + 1)) e in
    slice_get-set_other (extended rs bits) (r.variable - 1) v _
    (λ same. let on : r.variable ≡ v + 1 = omega (arith, some.0) in
    both_ways (r.variable == v + 1) h.0 (eq-eqb r.variable (v + 1) on))
    ∙ extended-others rs bits v some.1 h.1

from_one-each : (rs : List Removed) → All (λ r. 0 < r.variable) rs
    → AllByRecursion (λ r. 0 < r.variable) rs
from_one-each [] all = tt
from_one-each (r ∷ rs) all = (
  All-head (λ (x : Removed). 0 < x.variable) r rs all,
  from_one-each rs (All-tail (λ (x : Removed). 0 < x.variable) r rs all),
)

pub others_keep : (rs : List Removed) (bits : List Bool) (v : ℕ) → All (λ r. 0 < r.variable) rs
    → is_eliminated rs (v + 1) ≡ false → slice_get (extended rs bits) v ≡ slice_get bits v
others_keep rs bits v all e = extended-others rs bits v (from_one-each rs all) e
