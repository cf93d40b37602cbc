-- The trail: the literals that are true, in the order in which they became so.
use Rattle.std.specs.Prelude.{◌≡◌, ℕ, ◌+◌, ◌<◌, ◌≤◌, Bool, true, false, List, [], ◌∷◌, map, Option}
use Rattle.std.specs.Prelude.{Some, None, is_none, unwrap_or, ◌==◌, nat_le, if◌then◌else◌, count_by}
use Rattle.cnf.specs.Literal.{Literal, negation}
use Rattle.cnf.specs.Clause.{contains_literal}
use Rattle.cnf.specs.Refute.{Clauses, IsUnit}

-- a true literal, with the reference of the clause that was unit; a decision has none
pub record Assigned : Type 0 where
  pub literal : Literal
  pub reason : Option ℕ

pub record TrailState : Type 0 where
  pub variables : ℕ
  pub assigned : List Assigned

-- a literal of one of `variables` variables, which are numbered from 1
abbrev pub IsVariable : ℕ → Literal → Type 0
IsVariable variables l = (0 < l.variable) × (l.variable ≤ variables)

abbrev pub is_decision : Assigned → Bool
is_decision a = is_none a.reason

abbrev pub literals_of : List Assigned → List Literal
literals_of trail = map (λ a. a.literal) trail

-- the number of decisions
abbrev pub depth_of : List Assigned → ℕ
depth_of trail = count_by is_decision trail

abbrev pub level_after : ℕ → Assigned → ℕ
level_after level a = if is_decision a then level + 1 else level

-- the decisions up to the variable's literal, where it has one
abbrev pub level_from : ℕ → List Assigned → ℕ → Option ℕ
level_from level [] v = None
level_from level (a ∷ trail) v = if a.literal.variable == v then Some (level_after level a)
    else level_from (level_after level a) trail v

abbrev pub level_in : List Assigned → ℕ → Option ℕ
level_in trail v = level_from 0 trail v

-- the level of a literal that has a value
abbrev pub level_of : List Assigned → Literal → ℕ
level_of trail l = unwrap_or (level_in trail l.variable) 0

-- how many literals stand before the variable's, where it has one
abbrev pub position_from : ℕ → List Assigned → ℕ → Option ℕ
position_from n [] v = None
position_from n (a ∷ trail) v = if a.literal.variable == v then Some n else position_from (n + 1)
    trail v

abbrev pub position_in : List Assigned → ℕ → Option ℕ
position_in trail v = position_from 0 trail v

abbrev pub reason_in : List Assigned → ℕ → Option ℕ
reason_in [] v = None
reason_in (a ∷ trail) v = if a.literal.variable == v then a.reason else reason_in trail v

-- a literal is true or false where it or its negation is on the trail
abbrev pub value_in : List Assigned → Literal → Option Bool
value_in trail l =
    if contains_literal l (literals_of trail) then Some true
    else if contains_literal (negation l) (literals_of trail) then Some false
    else None

-- the trail up to the end of a level
abbrev pub kept_from : ℕ → ℕ → List Assigned → List Assigned
kept_from level to [] = []
kept_from level to (a ∷ trail) = if nat_le (level_after level a) to then a
    ∷ kept_from (level_after level a) to trail else []

abbrev pub kept_to : ℕ → List Assigned → List Assigned
kept_to to trail = kept_from 0 to trail

-- a decision was open, and any other literal was unit in the clause of its reason
abbrev pub IsJustified : Clauses → List Literal → Literal → Option ℕ → Type 0
IsJustified at A l None = (contains_literal l A ≡ false) × (contains_literal (negation l) A ≡ false)
IsJustified at A l (Some r) = (c : List Literal) × (at r ≡ Some c) × IsUnit c A l

-- the same of each literal after A
abbrev pub HasReasons : Clauses → List Literal → List Assigned → Type 0
HasReasons at A [] = Unit {0}
HasReasons at A (a ∷ trail) = IsJustified at A a.literal a.reason
    × HasReasons at (a.literal ∷ A) trail
