-- How a hint is kept in one word, of eight bytes or of four: four times its number, two more where
-- it names an addition, and one more where it begins a group.
use Rattle.std.specs.Prelude.{ℕ, Bool, true, false, ◌≡◌, ◌+◌, ◌*◌, ◌/◌, ◌%◌, ◌<◌, ◌==◌}
use Rattle.std.specs.Prelude.{if◌then◌else◌}
use Rattle.std.proofs.Common.{arith, ap, ◌∙◌}
use Rattle.cnf.specs.Packed.{parity}
use Rattle.lrat_log.specs.declared.lines.Name.{Name}
use Rattle.lrat_log.specs.declared.lines.Name.TheVariants.{Formula, Added}
use Rattle.lrat_log.specs.declared.lines.Hint.{Hint}
use Rattle.lrat_log.specs.declared.lines.Hint.TheVariants.{Plain, Group}
use Rattle.lrat_log.specs.declared.packed.PackedHint.TheInside.{Inside}
use Rattle.lrat_log.specs.declared.packed.NarrowHint.TheInside.{Inside as NarrowInside}

abbrev pub name_as : Bool → ℕ → Name
name_as true n = Added n
name_as false n = Formula n

abbrev pub hint_as : Bool → Name → Hint
hint_as true n = Group n
hint_as false n = Plain n

abbrev pub name_code : Name → ℕ
name_code (Formula i) = 4 * i
name_code (Added j) = 4 * j + 2

abbrev pub hint_at : ℕ → Hint
hint_at n = hint_as (n % 2 == 1) (name_as (n / 2 % 2 == 1) (n / 4))

abbrev pub hint_code : Hint → ℕ
hint_code (Plain n) = name_code n
hint_code (Group n) = name_code n + 1

name_code-as : (b : Bool) (n : ℕ) → name_code (name_as b n) ≡ 4 * n + 2 * (if b then 1 else 0)
name_code-as true n = omega arith
name_code-as false n = omega arith

hint_code-as : (b : Bool) (n : Name) → hint_code (hint_as b n) ≡ name_code n + (if b then 1 else 0)
hint_code-as true n = omega arith
hint_code-as false n = omega arith

hint_code-hint_at : (n : ℕ) → hint_code (hint_at n) ≡ n
hint_code-hint_at n =
    let low = n % 2 == 1 in
    let high = n / 2 % 2 == 1 in
    let p : n % 2 < 2 = omega arith in
    let q : n / 2 % 2 < 2 = omega arith in
    let e : name_code (name_as high (n / 4)) + (if low then 1 else 0) ≡ n =
    omega (arith, parity (n % 2) p, parity (n / 2 % 2) q, name_code-as high (n / 4)) in
    hint_code-as low (name_as high (n / 4)) ∙ e

abbrev pub hint_in : Inside → Hint
hint_in a = hint_at a.code

abbrev pub code_of : Hint → Inside
code_of h = record { code = hint_code h }

pub code_of-hint_in : (a : Inside) → code_of (hint_in a) ≡ a
code_of-hint_in a = ap (λ (n : ℕ). record { code = n }) (hint_code-hint_at a.code)

abbrev pub narrow_in : NarrowInside → Hint
narrow_in a = hint_at a.code

abbrev pub narrow_of : Hint → NarrowInside
narrow_of h = record { code = hint_code h }

pub narrow_of-narrow_in : (a : NarrowInside) → narrow_of (narrow_in a) ≡ a
narrow_of-narrow_in a = ap (λ (n : ℕ). record { code = n }) (hint_code-hint_at a.code)
