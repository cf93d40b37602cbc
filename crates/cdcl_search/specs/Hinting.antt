-- Hints by name, and clauses of one literal among them.
use Rattle.std.specs.Prelude.{◌≡◌, ℕ, true, false, List, [], ◌∷◌, ◌++◌, length, map, Option}
use Rattle.std.specs.Prelude.{Some, Contains}
use Rattle.std.specs.List.{AllByRecursion}
use Rattle.cnf.specs.Literal.{Literal, negation}
use Rattle.cnf.specs.Clause.{contains_literal, has_repeat}
use Rattle.cnf.specs.Refute.{Clauses}
use Rattle.clauses.specs.Slots.{Slots, clause_at}
use Rattle.propagate.specs.Trail.{Assigned}
use Rattle.propagate.specs.Watches.{EngineState}
use Rattle.propagate.specs.Fits.{Fits}
use Rattle.clauses.specs.Within.{Within}
use Rattle.lrat_log.specs.declared.lines.Name.{Name}
use Rattle.lrat_log.specs.declared.lines.Hint.{Hint}
use Rattle.lrat_log.specs.declared.lines.Hint.TheVariants.{Plain}
use Rattle.cdcl_search.specs.Invariant.{name_at, HasUnit, zero_of}

-- names by place, and units and stamps by variable, beside an engine over these clauses
pub record AreTables (e : EngineState) (slots : Slots) (by_place : List Name)
    (by_variable : List (Option ℕ)) (last : List ℕ) : Type 0 where
  pub fits : Fits e slots
  pub named : length by_place ≡ length slots
  pub units : length by_variable ≡ e.variables
  pub stamps : length last ≡ e.variables

abbrev pub plain_hints : List Name → List Hint
plain_hints ns = map Plain ns

-- of each clause that is hinted, what A makes false B makes false
abbrev pub Serves : Clauses → List Literal → List Literal → List ℕ → Type 0
Serves at A B hs = AllByRecursion (λ h. (c : List Literal) → at h ≡ Some c
    → (k : Literal) → contains_literal k c ≡ true
    → contains_literal (negation k) A ≡ true → contains_literal (negation k) B ≡ true) hs

-- the places are those of the literals, each a clause by itself
abbrev pub AreUnits : Clauses → List ℕ → List Literal → Type 0
AreUnits at [] [] = Unit {0}
AreUnits at (r ∷ rs) (l ∷ ls) = (at r ≡ Some (l ∷ [])) × AreUnits at rs ls
AreUnits at [] (l ∷ ls) = ⊥
AreUnits at (r ∷ rs) [] = ⊥

-- each literal of the clause that is false at level 0 has a clause for its negation
abbrev pub IsNotedIn : Slots → List (Option ℕ) → List Assigned → List Literal → Type 0
IsNotedIn slots units T c = (k : Literal) → contains_literal k c ≡ true
    → contains_literal (negation k) (zero_of T) ≡ true → HasUnit slots units (negation k)

-- so in each of the clauses
abbrev pub AreNoted : Slots → List (Option ℕ) → List Assigned → List ℕ → Type 0
AreNoted slots units T rs = (r : ℕ) → Contains rs r
    → (c : List Literal) → clause_at slots r ≡ Some c → IsNotedIn slots units T c

-- the negation of the literal stands in one of the clauses
pub record IsNeededBy (slots : Slots) (rs : List ℕ) (z : Literal) : Type 0 where
  pub reference : ℕ
  pub clause : List Literal
  pub listed : Contains rs reference
  pub live : clause_at slots reference ≡ Some clause
  pub stands : contains_literal (negation z) clause ≡ true

-- the hints are the clauses rs, after those of the literals of level 0 that rs need
pub record AreHintsOf (slots : Slots) (names : List Name) (T : List Assigned) (rs : List ℕ)
    (hints : List Hint) : Type 0 where
  pub units : List ℕ
  pub zeros : List Literal
  pub spelled : hints ≡ plain_hints (map (name_at names) (units ++ rs))
  pub are_units : AreUnits (clause_at slots) units zeros
  pub within : Within zeros (zero_of T)
  pub once : has_repeat zeros ≡ false
  pub serves : Serves (clause_at slots) (zero_of T) zeros rs
  pub needed : (z : Literal) → contains_literal z zeros ≡ true → IsNeededBy slots rs z
