-- How a name is kept in one word, of eight bytes or of four: twice its number, and one more where
-- it is that of an addition.
use Rattle.std.specs.Prelude.{ℕ, Bool, true, false, ◌≡◌, ◌+◌, ◌*◌, ◌/◌, ◌%◌, ◌<◌, ◌==◌}
use Rattle.std.specs.Prelude.{if◌then◌else◌}
use Rattle.std.proofs.Common.{arith, ap, ◌∙◌}
use Rattle.cnf.specs.Packed.{parity}
use Rattle.lrat_log.specs.declared.lines.Name.{Name}
use Rattle.lrat_log.specs.declared.lines.Name.TheVariants.{Formula, Added}
use Rattle.lrat_log.specs.Packed.{name_as}
use Rattle.lrat_log.specs.declared.packed_name.PackedName.TheInside.{Inside}
use Rattle.lrat_log.specs.declared.packed_name.NarrowName.TheInside.{Inside as NarrowInside}

abbrev pub name_at : ℕ → Name
name_at n = name_as (n % 2 == 1) (n / 2)

abbrev pub packed_code : Name → ℕ
packed_code (Formula i) = 2 * i
packed_code (Added j) = 2 * j + 1

packed_code-as : (b : Bool) (n : ℕ) → packed_code (name_as b n) ≡ 2 * n + (if b then 1 else 0)
packed_code-as true n = omega arith
packed_code-as false n = omega arith

packed_code-name_at : (n : ℕ) → packed_code (name_at n) ≡ n
packed_code-name_at n =
    let low = n % 2 == 1 in
    let p : n % 2 < 2 = omega arith in
    let e : 2 * (n / 2) + (if low then 1 else 0) ≡ n = omega (arith, parity (n % 2) p) in
    packed_code-as low (n / 2) ∙ e

abbrev pub name_in : Inside → Name
name_in a = name_at a.code

abbrev pub code_of : Name → Inside
code_of m = record { code = packed_code m }

pub code_of-name_in : (a : Inside) → code_of (name_in a) ≡ a
code_of-name_in a = ap (λ (n : ℕ). record { code = n }) (packed_code-name_at a.code)

abbrev pub narrow_in : NarrowInside → Name
narrow_in a = name_at a.code

abbrev pub narrow_of : Name → NarrowInside
narrow_of m = record { code = packed_code m }

pub narrow_of-narrow_in : (a : NarrowInside) → narrow_of (narrow_in a) ≡ a
narrow_of-narrow_in a = ap (λ (n : ℕ). record { code = n }) (packed_code-name_at a.code)
