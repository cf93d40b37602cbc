-- Unit propagation: literals that clauses of one literal make true.
use Rattle.std.specs.Prelude.{◌≡◌, ℕ, ◌+◌, ◌-◌, ◌*◌, ◌<◌, ◌≤◌, Bool, true, false, List, []}
use Rattle.std.specs.Prelude.{◌∷◌, ◌++◌, Result, MatchResult}
use Rattle.std.specs.Prelude.{length, map, filter, Option, Some, None, slice_index_or, unwrap_or}
use Rattle.std.specs.Prelude.{sum_by, if◌then◌else◌}
use Rattle.cnf.specs.Literal.{Literal, negation}
use Rattle.cnf.specs.Clause.{contains_literal}
use Rattle.cnf.specs.Refute.{IsUnit, IsFalseUnder}
use Rattle.clauses.specs.Slots.{Slots, clause_at}
use Rattle.lrat_log.specs.declared.lines.Name.{Name}
use Rattle.lrat_log.specs.declared.lines.Hint.{Hint}
use Rattle.lrat_log.specs.declared.lines.Hint.TheVariants.{Plain}
use Rattle.lrat_log.specs.Log.{LogLine}
use Rattle.cnf.specs.Marks.{IsMarked, mark_of}
use Rattle.eliminate.specs.declared.simplifier.Simplifier.{Simplifier}
use Rattle.eliminate.specs.declared.units.Units.{Units}
use Rattle.eliminate.specs.declared.units.ClauseState.{ClauseState}
use Rattle.eliminate.specs.declared.units.ClauseState.TheVariants.{Settled, Unit, Falsified}
use Rattle.eliminate.specs.Simplifier.{IsOpen, StaysSimplified, LeavesLog, Grows}
use Rattle.eliminate_names.specs.Work.{name_at}

-- with the literals of A true, the clause is neither false nor unit
abbrev pub IsSettled : List Literal → List Literal → Type 0
IsSettled A c = (IsFalseUnder c A → ⊥) × ((l : Literal) → IsUnit c A l → ⊥)

abbrev pub HasState : List Literal → List Literal → ClauseState → Type 0
HasState A c Settled = IsSettled A c
HasState A c (Unit l) = IsUnit c A l
HasState A c Falsified = IsFalseUnder c A

-- so for the clause at a place
abbrev pub HasStateAt : Units → Slots → ℕ → ClauseState → Type 0
HasStateAt u slots place state = (c : List Literal) → clause_at slots place ≡ Some c
    → HasState u.trail.items c state

-- no clause of the store is false or unit
abbrev pub AreSettled : List Literal → Slots → Type 0
AreSettled A slots = (r : ℕ) (c : List Literal) → clause_at slots r ≡ Some c → IsSettled A c

-- the clause of one literal that decides the literal's variable
abbrev pub unit_of : List (Option ℕ) → Literal → ℕ
unit_of clauses l = unwrap_or (slice_index_or clauses (l.variable - 1) None) 0

abbrev pub unit_name : List (Option ℕ) → List Name → Literal → Name
unit_name clauses names l = name_at names (unit_of clauses l)

-- the literal is true by a clause of the store that has it alone
pub record IsByUnit (clauses : List (Option ℕ)) (slots : Slots) (l : Literal) : Type 0 where
  pub from_one : 0 < l.variable
  pub place : ℕ
  pub there : slice_index_or clauses (l.variable - 1) None ≡ Some place
  pub alone : clause_at slots place ≡ Some (l ∷ [])

-- the literals on the trail are marked, and true by clauses of the store
pub record AreUnits (u : Units) (slots : Slots) : Type 0 where
  pub marked : IsMarked u.values u.trail.items
  pub places : length u.values ≡ 2 * length u.clauses.items
  pub by_units : (l : Literal) → contains_literal l u.trail.items ≡ true
      → IsByUnit u.clauses.items slots l

-- the literals of the clause that are false
abbrev pub falsified_in : Units → List Literal → List Literal
falsified_in u c = filter (λ l. mark_of u.values (negation l)) c

-- the hints by which a clause is false, or all of it but one literal
abbrev pub unit_hints : Units → List Name → List Literal → ℕ → List Hint
unit_hints u names c r = map (λ l. Plain (unit_name u.clauses.items names l)) (falsified_in u c)
    ++ Plain (name_at names r) ∷ []

-- how many literals are not true
abbrev pub open_count : Units → ℕ
open_count u = sum_by (λ marked. if marked then 0 else 1) u.values

-- more literals may be true, by more clauses
pub record MakesTrue (u : Units) (slots : Slots) (v : Units) (left : Slots) : Type 0 where
  pub units : AreUnits v left
  pub rows : length v.clauses.items ≡ length u.clauses.items
  pub grows : Grows slots left
  pub longer : length u.trail.items ≤ length v.trail.items
  pub fewer : open_count v ≤ open_count u
  pub paid : 2 * open_count v + length v.trail.items ≤ 2 * open_count u + length u.trail.items

-- a simplified form without the empty clause, and literals that its clauses make true
pub record IsPropagating (u : Units) (s : Simplifier) (slots : Slots) (lines : List LogLine) :
    Type 0 where
  pub is_open : IsOpen s slots lines
  pub units : AreUnits u slots
  pub fits : length u.clauses.items ≡ s.vars

-- what a move of propagation keeps: more literals may be true, unless the empty clause was added
pub record Propagates (u : Units) (s : Simplifier) (slots : Slots) (lines : List LogLine)
    (v : Units) (t : Simplifier) (left : Slots) (more : List LogLine) : Type 0 where
  pub simplified : StaysSimplified s slots lines t left more
  pub vars : t.vars ≡ s.vars
  pub units : t.is_refuted ≡ false → MakesTrue u slots v left

-- what a move of propagation leaves, and after an error the lines of a log
abbrev pub Moves : {T E : Type 0} → Result T E → Units → Simplifier → Slots → List LogLine → Units
    → Simplifier → Slots → List LogLine → Type 0
Moves result u s slots lines v t left more =
    MatchResult result (λ _. Propagates u s slots lines v t left more)
    (λ _. LeavesLog s slots lines more)

-- where something was found, more literals are true, unless the empty clause was added
abbrev pub MakesProgress : Units → Simplifier → Units → Bool → Type 0
MakesProgress u t v found = found ≡ true → t.is_refuted ≡ false → open_count v < open_count u

-- the clause at a place is settled, and nothing changed
abbrev pub AsksNothing : Units → Slots → ℕ → Units → Simplifier → Slots → Type 0
AsksNothing u slots place v t left = (t.is_refuted ≡ false) × (v ≡ u) × (left ≡ slots)
    × HasStateAt u slots place Settled
