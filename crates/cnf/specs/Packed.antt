-- How a literal is kept in one word: twice the variable, and one more where it is negated.
use Rattle.std.specs.Prelude.{ℕ, ◌≡◌, ◌+◌, ◌*◌, ◌/◌, ◌%◌, ◌<◌, ◌==◌, if◌then◌else◌}
use Rattle.std.proofs.Common.{arith, ap}
use Rattle.cnf.specs.declared.types.Lit.TheInside.{Inside}
use Rattle.cnf.specs.Literal.{Literal}

abbrev pub literal_in : Inside → Literal
literal_in a = record { variable = a.code / 2; negated = a.code % 2 == 1 }

abbrev pub code_of : Literal → Inside
code_of l = record { code = 2 * l.variable + (if l.negated then 1 else 0) }

pub parity : (r : ℕ) → r < 2 → (if r == 1 then 1 else 0) ≡ r
parity r h = Prim.grind arith

pub code_of-literal_in : (a : Inside) → code_of (literal_in a) ≡ a
code_of-literal_in a =
    let r : a.code % 2 < 2 = omega arith in
    let e : 2 * (a.code / 2) + (if a.code % 2 == 1 then 1 else 0) ≡ a.code
    = omega (arith, parity (a.code % 2) r) in
    ap (λ (n : ℕ). record { code = n }) e
