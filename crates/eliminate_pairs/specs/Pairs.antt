-- Pairs of literals that a fresh variable stands for, and what their definition keeps.
use Rattle.std.specs.Prelude.{◌≡◌, ◌≢◌, ℕ, zero, suc, ◌+◌, ◌<◌, ◌≤◌, Bool, true, false, List, []}
use Rattle.std.specs.Prelude.{◌∷◌, ◌++◌, All, Some, None, ◌&&◌, ◌⊎◌, nat_le, length, take}
use Rattle.std.specs.Prelude.{if◌then◌else◌, Result, MatchResult}
use Rattle.std.specs.List.{AllByRecursion}
use Rattle.cnf.specs.Literal.{Literal, Assignment, negation, literal_eq}
pub use Rattle.cnf.specs.Literal.{positive}
use Rattle.cnf.specs.Clause.{Satisfies, contains_literal, without_literal}
use Rattle.cnf.specs.Lrat.{IsId}
use Rattle.clauses.specs.Slots.{Slots, clause_at, live_clauses}
use Rattle.lrat_log.specs.declared.lines.Name.{Name}
use Rattle.lrat_log.specs.declared.lines.Hint.TheVariants.{Group}
use Rattle.lrat_log.specs.declared.lines.Kind.{Kind}
use Rattle.lrat_log.specs.declared.lines.Kind.TheVariants.{Definition}
use Rattle.lrat_log.specs.Log.{LogLine, Given}
use Rattle.lrat_log.specs.Steps.{StaysLogOver, AddsNoEmptyClause, learned_count, added_count}
use Rattle.eliminate_names.specs.Work.{IsWork, NamesState, added_line}
use Rattle.eliminate_pairs.specs.declared.frequencies.TheConstants.{FEWEST, SHORTEST}
use Rattle.eliminate_pairs.specs.declared.pairs.PairDefinition.{PairDefinition}

-- not z, or a or b
abbrev pub whole_clause : ℕ → Literal → Literal → List Literal
whole_clause z a b = negation (positive z) ∷ a ∷ b ∷ []

-- z or not a
abbrev pub side_clause : ℕ → Literal → List Literal
side_clause z a = positive z ∷ negation a ∷ []

abbrev pub whole_line : ℕ → Literal → Literal → LogLine
whole_line z a b = record { kind = Definition; clause = whole_clause z a b; hints = [] }

-- the line of a side, where the whole clause has this name
abbrev pub side_line : ℕ → Literal → Name → LogLine
side_line z a n = record { kind = Definition; clause = side_clause z a; hints = Group n ∷ [] }

-- z and the clause's other literals in their order
abbrev pub replaced : ℕ → Literal → Literal → List Literal → List Literal
replaced z a b c = positive z ∷ without_literal b (without_literal a c)

-- a clause of three or more literals has both
abbrev pub together : Literal → Literal → List Literal → Bool
together a b c = contains_literal a c && contains_literal b c && nat_le SHORTEST (length c)

-- in how many live clauses they stand so
abbrev pub meetings : Literal → Literal → Slots → ℕ
meetings a b [] = 0
meetings a b (None ∷ slots) = meetings a b slots
meetings a b (Some c ∷ slots) = (if together a b c then 1 else 0) + meetings a b slots

-- and in four or more
pub record StandOften (slots : Slots) (a b : Literal) : Type 0 where
  pub two : literal_eq a b ≡ false
  pub many : FEWEST ≤ meetings a b slots

-- in the clause at this place
pub record StandAt (slots : Slots) (a b : Literal) (place : ℕ) : Type 0 where
  pub clause : List Literal
  pub there : clause_at slots place ≡ Some clause
  pub both : together a b clause ≡ true

-- two literals of one clause
pub record ShareClause (slots : Slots) (a b : Literal) : Type 0 where
  pub place : ℕ
  pub clause : List Literal
  pub there : clause_at slots place ≡ Some clause
  pub has_a : contains_literal a clause ≡ true
  pub has_b : contains_literal b clause ≡ true
  pub two : literal_eq a b ≡ false

-- a literal on another variable
abbrev pub IsOnOther : ℕ → Literal → Type 0
IsOnOther z l = IsId l.variable × (l.variable ≢ z)

-- both literals stand in the clause, and the variable does not
pub record HasPairOf (z : ℕ) (a b : Literal) (c : List Literal) : Type 0 where
  pub has_a : contains_literal a c ≡ true
  pub has_b : contains_literal b c ≡ true
  pub others : AllByRecursion (IsOnOther z) c

-- the three clauses of a definition stand in the store
pub record IsDefined (slots : Slots) (d : PairDefinition) : Type 0 where
  pub whole : clause_at slots d.whole ≡ Some (whole_clause d.variable d.left d.right)
  pub left_side : clause_at slots d.left_side ≡ Some (side_clause d.variable d.left)
  pub right_side : clause_at slots d.right_side ≡ Some (side_clause d.variable d.right)
  pub two : literal_eq d.left d.right ≡ false

-- what is in hand between two moves
pub record Stage : Type 0 where
  pub variables : ℕ
  pub slots : Slots
  pub names : List Name
  pub lines : List LogLine

abbrev pub stage_of : ℕ → Slots → NamesState → List LogLine → Stage
stage_of v slots n lines =
    record { variables = v; slots = slots; names = n.names; lines = lines }

-- the names are those of the store's clauses, and count the additions of the log
pub record FitNames (n : NamesState) (slots : Slots) (lines : List LogLine) : Type 0 where
  pub counted : n.additions ≡ added_count lines
  pub long : length n.names ≡ length slots

-- the clause of a line stands behind those before, under the next name, and the log has the line
pub record AddsLine (l : LogLine) (held : Slots) (n : NamesState) (log : List LogLine) (r : ℕ)
    (more : Slots) (m : NamesState) (longer : List LogLine) : Type 0 where
  pub reference : r ≡ length held
  pub slots : more ≡ held ++ Some l.clause ∷ []
  pub names : m ≡ record {
    names = n.names ++ added_line n.additions ∷ [];
    additions = n.additions + 1;
  }
  pub lines : longer ≡ log ++ l ∷ []

-- what a stage is measured by: the formula's variables and clauses, clauses that are to follow from
-- what is left, and variables that may not come back
pub record Ground : Type 0 where
  pub first : ℕ
  pub given : Given
  pub clauses : List (List Literal)
  pub is_gone : ℕ → Bool

-- the log is open, the store holds what is live, and what satisfies it satisfies the clauses of the
-- ground
pub record IsStage (ground : Ground) (s : Stage) : Type 0 where
  pub more : ground.first ≤ s.variables
  pub work : IsWork ground.first s.variables ground.given s.slots s.names s.lines
  pub going : AddsNoEmptyClause s.lines
  pub back : (t : Assignment) → All (Satisfies t) (live_clauses s.slots)
      → All (Satisfies t) ground.clauses
  pub above : (v : ℕ) → s.variables < v → ground.is_gone v ≡ false
  pub free : (r : ℕ) (c : List Literal) → clause_at s.slots r ≡ Some c
      → All (λ l. ground.is_gone l.variable ≡ false) c

-- what was right stays so
abbrev pub Keeps : Stage → Stage → Type 0
Keeps before after = (ground : Ground) → IsStage ground before → IsStage ground after

-- a log over the formula's clauses that learns nothing
pub record IsOpenLog (ground : Ground) (lines : List LogLine) : Type 0 where
  pub steps : StaysLogOver ground.first ground.given lines
  pub none_learned : learned_count lines ≡ 0

-- where more was to come, its lines are still those of a log
abbrev pub KeepsLog : Stage → List LogLine → Type 0
KeepsLog before lines = (ground : Ground) → IsStage ground before → IsOpenLog ground lines

-- the lines that give a pair a variable, where the whole clause has this name for either side
abbrev pub definition_lines : ℕ → Literal → Literal → Name → Name → List LogLine
definition_lines z a b m n = whole_line z a b ∷ side_line z a m ∷ side_line z b n ∷ []

abbrev pub is_definition : Kind → Bool
is_definition Definition = true
is_definition other = false

-- none of these lines defines anything
abbrev pub DefineNothing : List LogLine → Type 0
DefineNothing lines = All (λ l. is_definition l.kind ≡ false) lines

-- a pair that stood often got the next variable
pub record DefinesOften (before after : Stage) : Type 0 where
  pub left : Literal
  pub right : Literal
  pub often : StandOften before.slots left right
  pub next : after.variables ≡ before.variables + 1
  pub for_left : Name
  pub for_right : Name
  pub lines : after.lines
      ≡ before.lines ++ definition_lines after.variables left right for_left for_right

-- no pair got one
pub record DefinesNone (before after : Stage) : Type 0 where
  pub same : after.variables ≡ before.variables
  pub more : List LogLine
  pub none : DefineNothing more
  pub lines : after.lines ≡ before.lines ++ more

-- one move: it keeps what was right, and a pair that it gives a variable stood often before it
pub record IsMove (before after : Stage) : Type 0 where
  pub keeps : Keeps before after
  pub pair : DefinesOften before after ⊎ DefinesNone before after

-- some of the lines that give a variable to a pair that stood often
pub record BeginsOften (before : Stage) (lines : List LogLine) : Type 0 where
  pub left : Literal
  pub right : Literal
  pub often : StandOften before.slots left right
  pub name : Name
  pub count : ℕ
  pub some : lines
      ≡ take count (definition_lines (before.variables + 1) left right name name)

-- a move that was refused: its lines are still those of a log, and a pair that they begin to define
-- stood often
pub record BreaksOff (before : Stage) (lines : List LogLine) : Type 0 where
  pub log : KeepsLog before lines
  pub more : List LogLine
  pub all : lines ≡ before.lines ++ more
  pub pair : BeginsOften before more ⊎ DefineNothing more

-- what a move leaves
abbrev pub Moves : {T E : Type 0} → Result T E → Stage → Stage → Type 0
Moves result before after =
    MatchResult result (λ _. IsMove before after) (λ _. BreaksOff before after.lines)

-- a number of moves, one after another
abbrev pub AreMoves : ℕ → Stage → Stage → Type 0
AreMoves zero before after = after ≡ before
AreMoves (suc n) before after =
    (between : Stage) × AreMoves n before between × IsMove between after

-- moves alone lead from one stage to the other
abbrev pub LeadsTo : Stage → Stage → Type 0
LeadsTo before after = (n : ℕ) × AreMoves n before after

-- the last of which was refused
abbrev pub LeadsOff : Stage → List LogLine → Type 0
LeadsOff before lines = (last : Stage) × LeadsTo before last × BreaksOff last lines

-- no two literals stand together in four or more clauses
abbrev pub AreRare : Slots → Type 0
AreRare slots = (a b : Literal) → StandOften slots a b → ⊥

-- where that is so, nothing is done
abbrev pub RestsWhereRare : Stage → Stage → Type 0
RestsWhereRare before after = AreRare before.slots → after ≡ before

-- pairs got the variables after those of a stage, up to the last, which is at most a bound; each
-- stood often when it got its own
pub record Replaces (before : Stage) (bound last : ℕ) (slots : Slots) (n : NamesState)
    (lines : List LogLine) : Type 0 where
  pub more : before.variables ≤ last
  pub most : last ≤ bound
  pub fit : FitNames n slots lines
  pub keeps : Keeps before (stage_of last slots n lines)
  pub moves : LeadsTo before (stage_of last slots n lines)
  pub rests : RestsWhereRare before (stage_of last slots n lines)

-- and after an error
pub record LeavesLog (before : Stage) (lines : List LogLine) : Type 0 where
  pub log : KeepsLog before lines
  pub moves : LeadsOff before lines
  pub rests : AreRare before.slots → lines ≡ before.lines

-- what a pass leaves, which answers with the last variable
abbrev pub Passes : {E : Type 0} → Result ℕ E → Stage → ℕ → Slots → NamesState → List LogLine
    → Type 0
Passes result before bound slots n lines =
    MatchResult result (λ last. Replaces before bound last slots n lines)
    (λ _. LeavesLog before lines)
