-- How a signed id is kept in one word: twice the id, and one more where a dash stands before it.
use Rattle.std.specs.Prelude.{ℕ, Bool, ◌≡◌, ◌+◌, ◌*◌, ◌/◌, ◌%◌, ◌<◌, ◌==◌, if◌then◌else◌}
use Rattle.std.proofs.Common.{arith, ap}
use Rattle.cnf.specs.Packed.{parity}
use Rattle.lrat_read.specs.declared.types.SignedId.TheInside.{Inside}

abbrev pub signed_in : Inside → Bool × ℕ
signed_in a = (a.code % 2 == 1, a.code / 2)

abbrev pub code_of : Bool × ℕ → Inside
code_of x = record { code = 2 * x.1 + (if x.0 then 1 else 0) }

pub code_of-signed_in : (a : Inside) → code_of (signed_in a) ≡ a
code_of-signed_in a =
    let r : a.code % 2 < 2 = omega arith in
    let e : 2 * (a.code / 2) + (if a.code % 2 == 1 then 1 else 0)
    ≡ a.code = omega (arith, parity (a.code % 2) r) in
    ap (λ (n : ℕ). record { code = n }) e
