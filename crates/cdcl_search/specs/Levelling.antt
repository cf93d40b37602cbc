-- Levels at which a clause may be attached.
use Rattle.std.specs.Prelude.{◌≡◌, ◌≢◌, ℕ, ◌<◌, ◌≤◌, true, false, List}
use Rattle.cnf.specs.Literal.{Literal, negation}
use Rattle.cnf.specs.Clause.{contains_literal}
use Rattle.cnf.specs.Refute.{IsUnit, IsFalseUnder}
use Rattle.propagate.specs.Trail.{Assigned, literals_of, kept_to, depth_of}

-- at the end of each level below this one the literal is not false
abbrev pub IsOpenBelow : List Assigned → Literal → ℕ → Type 0
IsOpenBelow T l m = (k : ℕ) → k < m
    → contains_literal (negation l) (literals_of (kept_to k T)) ≡ false

-- at the end of each level below this one the clause is neither false nor unit
abbrev pub IsPlaceable : List Assigned → List Literal → ℕ → Type 0
IsPlaceable T c m = (k : ℕ) → k < m
    → (IsFalseUnder c (literals_of (kept_to k T)) → ⊥)
    × ((l : Literal) → IsUnit c (literals_of (kept_to k T)) l → ⊥)

-- some literal of the clause is not false below the level
pub record HasOpen (T : List Assigned) (c : List Literal) (m : ℕ) : Type 0 where
  pub literal : Literal
  pub stands : contains_literal literal c ≡ true
  pub open_below : IsOpenBelow T literal m

-- two of them are
pub record HasTwoOpen (T : List Assigned) (c : List Literal) (m : ℕ) : Type 0 where
  pub one : Literal
  pub other : Literal
  pub apart : one ≢ other
  pub one_stands : contains_literal one c ≡ true
  pub other_stands : contains_literal other c ≡ true
  pub one_open : IsOpenBelow T one m
  pub other_open : IsOpenBelow T other m

-- the two highest levels below which literals of the clause are not false
pub record Ranks (T : List Assigned) (c : List Literal) (highest second : ℕ) : Type 0 where
  pub low : second ≤ highest
  pub deep : highest ≤ depth_of T
  pub first : 0 < highest → HasOpen T c highest
  pub both : 0 < second → HasTwoOpen T c second
