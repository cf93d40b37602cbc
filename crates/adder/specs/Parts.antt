-- What the parts of the building compute.
use Rattle.std.specs.Prelude.{◌≡◌, ℕ, List, [], ◌∷◌, ◌++◌, length, map, filter, Option, Some}
use Rattle.std.specs.Prelude.{None}
use Rattle.cnf.specs.Literal.{Literal, negation}
use Rattle.adder.specs.declared.columns.Adder.{Adder}
use Rattle.adder.specs.declared.profiles.Relaxing.{Relaxing}
use Rattle.adder.specs.declared.profiles.Relaxing.TheVariants.{EachByVariable, UnitsByNegation}
use Rattle.adder.specs.declared.relaxations.Relaxation.{Relaxation}
use Rattle.adder.specs.Network.{Relaxed, Column, bit, added_up}

-- the relaxation literal of a clause that takes no fresh variable
abbrev pub own_relaxation : Relaxing → List Literal → Option Literal
own_relaxation UnitsByNegation (l ∷ []) = Some (negation l)
own_relaxation UnitsByNegation [] = None
own_relaxation UnitsByNegation (l ∷ k ∷ c) = None
own_relaxation EachByVariable c = None

-- what the network reads of a relaxed clause
abbrev pub relaxation_of : Relaxed → Relaxation
relaxation_of e = record { lit = e.literal; weight = (e.soft).weight }

-- a weight with the literal that gives it up
abbrev pub weight_in : Relaxation → ℕ × Literal
weight_in r = (r.weight, r.lit)

-- the literals of the weights with bit j
abbrev pub literals_with : ℕ → List Relaxation → List Literal
literals_with j rs = map (λ r. r.lit) (filter (λ r. bit r.weight j) rs)

-- a column added up to its end, with the variables from n on
abbrev pub column_from : ℕ → List Literal → Column
column_from n ls = added_up (length ls) n ls

-- a column is added up: its cells come behind those so far, what it carries behind `carried`, and
-- its output is answered
pub record AddsColumn (old new : Adder) (carried column : List Literal) (answer : Option Literal)
    : Type 0 where
  pub output : answer ≡ (column_from old.fresh column).output
  pub cells : new.cells.items ≡ old.cells.items ++ (column_from old.fresh column).cells
  pub carries : new.carries.items ≡ carried ++ (column_from old.fresh column).carries
  pub fresh : new.fresh ≡ (column_from old.fresh column).fresh
