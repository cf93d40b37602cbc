-- Conflict analysis: what is learned from a clause that is false.
use Rattle.std.specs.Prelude.{Option, None, if◌then◌else◌, ◌≡◌, ℕ, ◌<◌, Bool, true, false, List, []}
use Rattle.std.specs.Prelude.{◌∷◌, ◌++◌, ◌==◌, map, max, All, IfSome, Some, ◌⊎◌}
use Rattle.std.specs.List.{AllByRecursion}
use Rattle.cnf.specs.Literal.{Literal, negation}
use Rattle.cnf.specs.Clause.{contains_literal, has_repeat}
use Rattle.cnf.specs.Refute.{Clauses, Refutes, IsUnit, IsFalseUnder}
use Rattle.clauses.specs.Slots.{Slots, clause_at, IsLive}
use Rattle.propagate.specs.Trail.{Assigned, literals_of, depth_of, kept_to, level_of, reason_in}
use Rattle.propagate.specs.Watches.{EngineState}
use Rattle.propagate.specs.Fits.{Fits}
use Rattle.analyze.specs.declared.analyzer.Learned.{Learned}
use Rattle.analyze.specs.declared.analyzer.FinalClause.{FinalClause}

abbrev pub greatest_level : List Assigned → List Literal → ℕ
greatest_level trail [] = 0
greatest_level trail (l ∷ c) = max (level_of trail l) (greatest_level trail c)

-- all literals are false; the first, the asserting literal, is of the current level, the others of
-- lower levels above 0
pub record IsAsserting (trail : List Assigned) (c : List Literal) (back_level : ℕ) : Type 0 where
  pub first : Literal
  pub others : List Literal
  pub split : c ≡ first ∷ others
  pub no_repeat : has_repeat c ≡ false
  pub falsified : IsFalseUnder c (literals_of trail)
  pub current : level_of trail first ≡ depth_of trail
  pub above_zero : All (λ l. 0 < level_of trail l) others
  pub lower : All (λ l. level_of trail l < depth_of trail) others
  pub back : back_level ≡ greatest_level trail others

-- a clause that is false, with a literal of the current level
pub record IsConflict (trail : List Assigned) (c : List Literal) : Type 0 where
  pub falsified : IsFalseUnder c (literals_of trail)
  pub literal : Literal
  pub stands : contains_literal literal c ≡ true
  pub current : level_of trail literal ≡ depth_of trail

-- the hints refute the negation of the clause, with the literals of level 0
abbrev pub IsRefutedBy : Slots → List Assigned → List Literal → List ℕ → Type 0
IsRefutedBy slots trail c hints =
    Refutes (clause_at slots) (map negation c ++ literals_of (kept_to 0 trail)) hints

-- no live clause is false or unit
abbrev pub IsFixpoint : Slots → List Literal → Type 0
IsFixpoint slots A = (r : ℕ) (c : List Literal) → clause_at slots r ≡ Some c
    → (IsFalseUnder c A → ⊥) × ((l : Literal) → IsUnit c A l → ⊥)

-- What an analysis has marked: the variables that stay in the clause, and those that were resolved.

-- each literal is of level 0, kept or resolved
abbrev pub IsCovered : List Assigned → (ℕ → Bool) → (ℕ → Bool) → List Literal → Type 0
IsCovered trail kept resolved c = (k : Literal) → contains_literal k c ≡ true
    → (level_of trail k ≡ 0) ⊎ ((kept k.variable ≡ true) ⊎ (resolved k.variable ≡ true))

-- the reason of the literal is a live clause of which P holds
pub record IsExplained (at : Clauses) (P : List Literal → Type 0) (a : Assigned) : Type 0 where
  pub reference : ℕ
  pub clause : List Literal
  pub reason : a.reason ≡ Some reference
  pub live : at reference ≡ Some clause
  pub holds : P clause

pub record IsMarked (at : Clauses) (trail : List Assigned) (conflict : List Literal)
    (kept resolved : ℕ → Bool) : Type 0 where
  pub starts : IsCovered trail kept resolved conflict
  pub reasons : AllByRecursion (λ a. resolved a.literal.variable ≡ true
      → IsExplained at (IsCovered trail kept resolved) a) trail
  pub apart : (v : ℕ) → kept v ≡ true → resolved v ≡ false
  pub above_zero : (l : Literal) → resolved l.variable ≡ true → 0 < level_of trail l

-- the clause has the false literals of the variables that are kept, and no others
pub record IsCollected (trail : List Assigned) (kept : ℕ → Bool) (c : List Literal) : Type 0 where
  pub all : (k : Literal) → kept k.variable ≡ true
      → contains_literal (negation k) (literals_of trail) ≡ true → contains_literal k c ≡ true
  pub only : (k : Literal) → contains_literal k c ≡ true → kept k.variable ≡ true
  pub falsified : IsFalseUnder c (literals_of trail)

-- the reasons of the chosen literals, in their order
abbrev pub reason_list : Option ℕ → List ℕ
reason_list None = []
reason_list (Some r) = r ∷ []

abbrev pub chosen_reasons : (Literal → Bool) → List Assigned → List ℕ
chosen_reasons chosen [] = []
chosen_reasons chosen (a ∷ T) = if chosen a.literal
    then reason_list a.reason ++ chosen_reasons chosen T
    else chosen_reasons chosen T

-- the hints are reasons of literals of the trail, in its order, and then the clause that was false
pub record IsInTrailOrder (trail : List Assigned) (conflict : ℕ) (hints : List ℕ) : Type 0 where
  pub chosen : Literal → Bool
  pub ordered : hints ≡ chosen_reasons chosen trail ++ conflict ∷ []

-- what is asked of a conflict from which a clause is learned
pub record CanLearn (engine : EngineState) (slots : Slots) (conflict : ℕ) : Type 0 where
  pub fits : Fits engine slots
  pub live : IsLive slots conflict
  pub falsified : IfSome (clause_at slots conflict) (IsConflict engine.trail)
  pub deep : 0 < depth_of engine.trail

-- what is learned from it
pub record Learns (slots : Slots) (trail : List Assigned) (conflict : ℕ) (learned : Learned) :
    Type 0 where
  pub asserting : IsAsserting trail learned.lits.items learned.back_level
  pub hints : IsRefutedBy slots trail learned.lits.items learned.hints.items
  pub order : IsInTrailOrder trail conflict learned.hints.items

-- Why a literal is false.

-- the trail up to the literal's variable, where the literal is decided in place of what came
abbrev pub decided : Literal → List Assigned → List Assigned
decided l [] = []
decided l (a ∷ T) = if a.literal.variable == l.variable
    then record { literal = l; reason = None } ∷ []
    else a ∷ decided l T

-- its negation is true above level 0, by this reason
pub record IsFalsified (trail : List Assigned) (l : Literal) (reason : ℕ) : Type 0 where
  pub negated : contains_literal (negation l) (literals_of trail) ≡ true
  pub above : 0 < level_of trail l
  pub reason_is : reason_in trail l.variable ≡ Some reason

-- the clause has the negation of the literal; on the trail on which the literal was decided instead
-- it is asserting, and hints refute its negation; these are reasons in the order of the trail
pub record IsFinal (slots : Slots) (trail : List Assigned) (l : Literal) (reason : ℕ)
    (final : FinalClause) : Type 0 where
  pub others : List Literal
  pub split : final.lits.items ≡ negation l ∷ others
  pub back : ℕ
  pub asserting : IsAsserting (decided l trail) final.lits.items back
  pub hints : IsRefutedBy slots (decided l trail) final.lits.items final.hints.items
  pub order : IsInTrailOrder trail reason final.hints.items
