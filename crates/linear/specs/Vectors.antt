-- Worked least values.
use Rattle.std.specs.Prelude.{◌≡◌, pos, negsuc, [], ◌∷◌, refl}
use Rattle.cnf.specs.Literal.{positive as p, negative as n}
use Rattle.linear.specs.Linear.{plus_constant, plus_literals}
use Rattle.linear.specs.Costs.{CostForm, form_of, restarted, fixed_by, falsified, least}
use Rattle.linear.specs.Costs.{least_where}

-- 3 for the first variable, 4 for the second
abbrev two : CostForm
two = restarted 1 (form_of 3 ((3, p 1) ∷ (4, p 2) ∷ []))

none : least two ≡ pos 0
none = refl

-- less three times how much the true ones of both exceed 1
abbrev clause : CostForm
clause = record two {
  added = plus_constant (pos 3)
      (plus_literals (negsuc 2) (p 1 ∷ p 2 ∷ []) (CostForm.added two));
}

three : least clause ≡ pos 3
three = refl

-- where the second one is true, and where it is not
four : least_where clause (falsified (n 2 ∷ []) (CostForm.fixed clause)) ≡ pos 4
four = refl

fixed : least (record clause { fixed = fixed_by (n 2) (CostForm.fixed clause) }) ≡ pos 3
fixed = refl
