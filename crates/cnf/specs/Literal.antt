-- Variables, literals and assignments.
use Rattle.std.specs.Prelude.{◌≡◌, ℕ, ◌<◌, Bool, true, false, not, ◌+◌, ◌-◌, ◌*◌}
use Rattle.std.specs.Prelude.{if◌then◌else◌, ◌==◌, ◌&&◌}

-- a variable from 1, or its negation
pub record Literal : Type 0 where
  pub variable : ℕ
  pub negated : Bool

-- the literals of a variable
abbrev pub positive : ℕ → Literal
positive v = record { variable = v; negated = false }

abbrev pub negative : ℕ → Literal
negative v = record { variable = v; negated = true }

abbrev pub negation : Literal → Literal
negation l = record { variable = l.variable; negated = not l.negated }

-- a truth value for each variable
abbrev pub Assignment : Type 0
Assignment = ℕ → Bool

-- the assignment with one value changed
abbrev pub put : Assignment → ℕ → Bool → Assignment
put t n b v = if v == n then b else t v

-- the two agree below n
abbrev pub SameBelow : ℕ → Assignment → Assignment → Type 0
SameBelow n t u = (v : ℕ) → v < n → u v ≡ t v

-- a positive literal is true when its variable is, a negated one when its variable is not
abbrev pub literal_value : Assignment → Literal → Bool
literal_value t l = if l.negated then not (t l.variable) else t l.variable

abbrev pub same_bool : Bool → Bool → Bool
same_bool a b = if a then b else not b

-- the test for one literal
abbrev pub literal_eq : Literal → Literal → Bool
literal_eq k l = (k.variable == l.variable) && same_bool k.negated l.negated

-- a literal's place in a table with one row for each literal
abbrev pub index_of : Literal → ℕ
index_of l = 2 * (l.variable - 1) + (if l.negated then 1 else 0)
