-- What elimination leaves of clauses, and what it gives back.
use Rattle.std.specs.Prelude.{◌≡◌, ℕ, ◌+◌, ◌-◌, ◌<◌, ◌≤◌, Bool, false, List, [], length}
use Rattle.std.specs.Prelude.{map, Some, All, Contains, nat_eq}
use Rattle.std.specs.List.{IsDistinct}
use Rattle.cnf.specs.Literal.{Literal, Assignment}
use Rattle.cnf.specs.Clause.{Satisfies}
use Rattle.cnf.specs.Formula.{IsFormulaClause}
use Rattle.cnf.specs.Refute.{Clauses, IsRefutedByHints}
use Rattle.cnf.specs.Bits.{assignment_of}
use Rattle.clauses.specs.Slots.{Slots, clause_at, live_clauses, live_places}
use Rattle.lrat_log.specs.declared.lines.Name.{Name}
use Rattle.lrat_log.specs.Log.{LogLine, id_of, number_in}
use Rattle.lrat_log.specs.Steps.{IsBaseOf, given_of, log_live}
use Rattle.eliminate.specs.declared.ending.TheConstants.{MOST_FRESH}
use Rattle.reconstruction.specs.Removals.{Removed, extended, is_eliminated}
use Rattle.reconstruction.specs.Stack.{IsFree, StackState}

-- no clause has an eliminated variable
abbrev pub AreFreeOf : List Removed → List (List Literal) → Type 0
AreFreeOf removed cs = All (All (λ l. is_eliminated removed l.variable ≡ false)) cs

abbrev pub SatisfiesAll : Assignment → List (List Literal) → Type 0
SatisfiesAll t cs = All (Satisfies t) cs

-- what satisfies the clauses after satisfies those before, once it is extended
abbrev pub ExtendsBack : StackState → List (List Literal) → List (List Literal) → Type 0
ExtendsBack stack before after = (bits : List Bool) → stack.variables ≤ length bits
    → SatisfiesAll (assignment_of bits) after
    → SatisfiesAll (assignment_of (extended stack.removed bits)) before

-- the store holds just what is live, each clause under an id of its own
pub record HoldsWhatIsLive (slots : Slots) (names : List (ℕ × Name)) (base : ℕ) (at : Clauses)
    : Type 0 where
  pub from_one : All (λ n. 0 < number_in n.1) names
  pub listed : map (λ n. n.0) names ≡ live_places slots
  pub differ : IsDistinct nat_eq (map (λ n. id_of base n.1) names)
  pub named : All (λ n. at (id_of base n.1) ≡ clause_at slots n.0) names
  pub only : (i : ℕ) (c : List Literal) → at i ≡ Some c
      → Contains (map (λ n. id_of base n.1) names) i

-- what elimination leaves of a formula's clauses: this stack, and the clauses of this store
pub record EliminationLeaves (frozen : List Bool) (before : List (List Literal))
    (lines : List LogLine) (stack : StackState) (slots : Slots) : Type 0 where
  -- the store has a place for each clause that is left, and no other
  pub together : slots ≡ map Some (live_clauses slots)
  -- it holds just what is live after the lines, each clause under a name of its own
  pub live : (base : ℕ) → IsBaseOf (given_of before) base
      → HoldsWhatIsLive slots stack.names base (log_live (given_of before) base lines)
  -- each is the clause of a formula with these variables
  pub left : All (IsFormulaClause stack.variables) (live_clauses slots)
  -- the variables are those of the formula, and at most `MOST_FRESH` fresh ones
  pub variables : (length frozen ≤ stack.variables)
      × (stack.variables ≤ length frozen + MOST_FRESH)
  -- no eliminated variable occurs
  pub free : AreFreeOf stack.removed (live_clauses slots)
  -- variables of the formula alone were eliminated, and none that is frozen
  pub not_frozen : All (λ r. IsFree frozen r.variable) stack.removed
  -- bits that satisfy what is left satisfy what was given, once they are extended
  pub back : ExtendsBack stack before (live_clauses slots)
  -- if hints refute what was given, the empty clause is left
  pub refuted : IsRefutedByHints before → Contains (live_clauses slots) []

-- what is left of a formula of which nothing is eliminated: this stack, and this store's clauses
pub record IsWhole (variables : ℕ) (clauses : List (List Literal)) (slots : Slots)
    (stack : StackState) : Type 0 where
  pub together : slots ≡ map Some clauses
  -- each clause is live under its number, and nothing else is
  pub live : (base : ℕ) → IsBaseOf (given_of clauses) base
      → HoldsWhatIsLive slots stack.names base (log_live (given_of clauses) base [])
  pub variables_are : stack.variables ≡ variables
  pub none_removed : stack.removed ≡ []
