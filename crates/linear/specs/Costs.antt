-- A multiple of a cost, plus something else: the least value over all values of the variables that
-- have none.
use Rattle.std.specs.Prelude.{◌≡◌, ℕ, ℤ, pos, ◌+ℤ◌, ◌*ℤ◌, ◌-◌, Bool, not, List}
use Rattle.std.specs.Prelude.{[], ◌∷◌, ◌++◌, length, replicate, Option, Some, None, slice_set}
use Rattle.std.specs.Prelude.{slice_index_or}
use Rattle.cnf.specs.Literal.{Literal, Assignment}
use Rattle.linear.specs.Linear.{Linear, least_term, plus_literal, value}

-- lists by variable, all of one length; place 0 is of no variable
pub record CostForm : Type 0 where
  -- what a solution costs
  pub cost : Linear
  -- how many times the cost is taken
  pub scale : ℕ
  -- what is added to that
  pub added : Linear
  -- the variables that have a value, and which
  pub fixed : List (Option Bool)

-- the three lists have one length
pub record HasOneWidth (f : CostForm) : Type 0 where
  pub cost : length (f.cost).coefficients ≡ length f.fixed
  pub added : length (f.added).coefficients ≡ length f.fixed

-- the weights of these literals, over the variables below a number
abbrev pub cost_from : Linear → List (ℕ × Literal) → Linear
cost_from f [] = f
cost_from f (e ∷ es) = cost_from (plus_literal (pos e.0) e.1 f) es

abbrev pub zero_below : ℕ → Linear
zero_below width = record { constant = pos 0; coefficients = replicate width (pos 0) }

-- nothing beside the cost, and no variable has a value
abbrev pub form_of : ℕ → List (ℕ × Literal) → CostForm
form_of width weights = record {
  cost = cost_from (zero_below width) weights;
  scale = 0;
  added = zero_below width;
  fixed = replicate width None;
}

-- how many variables it is over, with place 0
abbrev pub width_of : CostForm → ℕ
width_of f = length f.fixed

abbrev pub widened_linear : ℕ → Linear → Linear
widened_linear more f =
    record f { coefficients = f.coefficients ++ replicate more (pos 0) }

-- over the variables below a number, if those are more than it was over
abbrev pub widened : ℕ → CostForm → CostForm
widened width f =
    let more = width - width_of f in
    record {
      cost = widened_linear more f.cost;
      scale = f.scale;
      added = widened_linear more f.added;
      fixed = f.fixed ++ replicate more None;
    }

-- `scale` times the cost, and nothing added
abbrev pub restarted : ℕ → CostForm → CostForm
restarted scale f = record f { scale = scale; added = zero_below (width_of f) }

-- the literal's variable has a value that makes it true, unless it had one
abbrev pub fixed_by : Literal → List (Option Bool) → List (Option Bool)
fixed_by l fixed = by (slice_index_or fixed l.variable None)
  where
    by : Option Bool → List (Option Bool)
    by None = slice_set fixed l.variable (Some (not l.negated))
    by (Some b) = fixed

-- the literals are false, whatever values their variables had
abbrev pub falsified : List Literal → List (Option Bool) → List (Option Bool)
falsified [] fixed = fixed
falsified (l ∷ ls) fixed = falsified ls (slice_set fixed l.variable (Some l.negated))

-- the least sum of the terms
abbrev pub least_sum : ℕ → List ℤ → List ℤ → List (Option Bool) → ℤ
least_sum scale (c ∷ cs) (r ∷ rs) (f ∷ fs) =
    least_term ((pos scale *ℤ c) +ℤ r) f +ℤ least_sum scale cs rs fs
least_sum scale cs rs fs = pos 0

-- the least value where variables have these values
abbrev pub least_where : CostForm → List (Option Bool) → ℤ
least_where f fixed =
    ((pos f.scale *ℤ (f.cost).constant) +ℤ (f.added).constant)
    +ℤ least_sum f.scale (f.cost).coefficients (f.added).coefficients fixed

abbrev pub least : CostForm → ℤ
least f = least_where f f.fixed

-- its value under an assignment
abbrev pub form_value : CostForm → Assignment → ℤ
form_value f t = (pos f.scale *ℤ value f.cost t) +ℤ value f.added t

-- each variable that has a value has it under the assignment
abbrev pub AgreesWith : List (Option Bool) → Assignment → Type 0
AgreesWith fixed t =
    (v : ℕ) (b : Bool) → slice_index_or fixed v None ≡ Some b → t v ≡ b
