-- Linear functions of variables that are 0 or 1, and their least values.
use Rattle.std.specs.Prelude.{ℕ, ℤ, pos, negsuc, ◌+ℤ◌, ◌-ℤ◌, ◌+◌, Bool, true, false, List}
use Rattle.std.specs.Prelude.{[], ◌∷◌, Option, Some, None, slice_set, slice_index_or}
use Rattle.std.specs.Prelude.{if◌then◌else◌}
use Rattle.cnf.specs.Literal.{Literal, Assignment, literal_value}

-- a constant and a coefficient for each variable; place 0 is of none
pub record Linear : Type 0 where
  pub constant : ℤ
  pub coefficients : List ℤ

abbrev pub coefficient : Linear → ℕ → ℤ
coefficient f v = slice_index_or f.coefficients v (pos 0)

-- with w more
abbrev pub plus_constant : ℤ → Linear → Linear
plus_constant w f = record f { constant = f.constant +ℤ w }

-- with w more at a variable
abbrev pub plus_at : ℤ → ℕ → Linear → Linear
plus_at w v f = record f { coefficients = slice_set f.coefficients v (coefficient f v +ℤ w) }

-- with w times a literal: x, or 1 - x for the negation of x
abbrev pub plus_literal : ℤ → Literal → Linear → Linear
plus_literal w l f =
    if l.negated then plus_at (pos 0 -ℤ w) l.variable (plus_constant w f)
    else plus_at w l.variable f

-- with w times each literal
abbrev pub plus_literals : ℤ → List Literal → Linear → Linear
plus_literals w [] f = f
plus_literals w (l ∷ ls) f = plus_literals w ls (plus_literal w l f)

-- how many of the literals are true
abbrev pub true_count : Assignment → List Literal → ℕ
true_count t [] = 0
true_count t (l ∷ ls) = (if literal_value t l then 1 else 0) + true_count t ls

-- the sum of the coefficients of true variables, those of the variables from v on
abbrev pub value_from : ℕ → List ℤ → Assignment → ℤ
value_from v [] t = pos 0
value_from v (c ∷ cs) t = (if t v then c else pos 0) +ℤ value_from (v + 1) cs t

-- its value under an assignment
abbrev pub value : Linear → Assignment → ℤ
value f t = f.constant +ℤ value_from 0 f.coefficients t

-- by how much a number falls short of 0
abbrev pub shortfall : ℤ → ℕ
shortfall (pos n) = 0
shortfall (negsuc n) = n + 1

-- the least that a coefficient gives, where its variable may have a value
abbrev pub least_term : ℤ → Option Bool → ℤ
least_term c None = pos 0 -ℤ pos (shortfall c)
least_term c (Some true) = c
least_term c (Some false) = pos 0
