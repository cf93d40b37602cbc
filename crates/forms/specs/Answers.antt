-- What a line comes to.
use Rattle.std.specs.Prelude.{◌≡◌, ◌+◌, ◌<◌, ◌≤◌, ℕ, List, [], ◌++◌, length, Option, Some, None}
use Rattle.std.specs.Prelude.{Result, Ok}
use Rattle.std.specs.Prelude.{Err}
use Rattle.std.specs.List.{AllByRecursion}
use Rattle.cnf.specs.Literal.{Literal}
use Rattle.cnf.specs.declared.limits.TheConstants.{NUMBER_LIMIT}
use Rattle.totalizer.specs.Stages.{Staged, Tree}
use Rattle.totalizer.specs.Grown.{IsStageClause}
use Rattle.forms.specs.declared.faults.LineFault.{LineFault}
use Rattle.forms.specs.declared.faults.LineFault.TheVariants.{Name, Limit, Worth}
use Rattle.forms.specs.declared.types.NamedFact.{NamedFact}
use Rattle.forms.specs.declared.faults.TheConstants.{MOST_TERMS}
use Rattle.cnf.specs.Refute.{Clauses}
use Rattle.forms.specs.Forms.{Forms, Made, Numbered, Count, begun, count_line, facts_size}
use Rattle.forms.specs.Forms.{form_line, less_facts, more_line}

-- what it leaves, or why it is refused; then nothing has changed
abbrev pub IsTaken : Result Forms LineFault → Forms → Forms → Option LineFault → Type 0
IsTaken line old new None = line ≡ Ok new
IsTaken line old new (Some fault) = (line ≡ Err fault) × (new ≡ old)

-- what it leaves, with its clauses; or why it is refused: then nothing has changed, and there are
-- none
abbrev pub IsMade : Result Made LineFault → Forms → Forms → List (List Literal)
    → Option LineFault → Type 0
IsMade line old new clauses None = line ≡ Ok (record { forms = new; clauses = clauses })
IsMade line old new clauses (Some fault) = (line ≡ Err fault) × (new ≡ old) × (clauses ≡ [])

-- why a line is refused, if it is
abbrev pub fault_of : Result Made LineFault → Option LineFault
fault_of (Ok m) = None
fault_of (Err fault) = Some fault

-- each clause has two literals or more, of different variables up to the greatest that is left
abbrev pub AreStageClauses : Made → Type 0
AreStageClauses m = AllByRecursion (IsStageClause ((m.forms).variables + 1)) m.clauses

-- the clauses of each line that makes some are so
pub record MakesStageClauses (s : Forms) : Type 0 where
  pub count : (outputs : ℕ) (inputs : List Literal) (m : Made) → count_line outputs inputs s ≡ Ok m
      → AreStageClauses m
  pub more : (number : ℕ) (m : Made) → more_line number s ≡ Ok m → AreStageClauses m

-- the stages are there, with the next new variable, and make no more clauses than there is room
-- for; or they make more
pub record HasGrown (g : Staged) (room : ℕ) (t : Tree) (cs : List (List Literal)) (next : ℕ) :
    Type 0 where
  pub few : length cs ≤ room
  pub tree : t ≡ g.tree
  pub clauses : cs ≡ g.clauses
  pub fresh : next ≡ g.fresh

abbrev pub IsGrown : Staged → ℕ → Tree → List (List Literal) → Option ℕ → Type 0
IsGrown g room t cs None = room < length g.clauses
IsGrown g room t cs (Some next) = HasGrown g room t cs next

-- a count has the next stage, whose clauses are behind those that were there
pub record IsMore (g : Staged) (inputs : List Literal) (multiplier : ℕ)
    (before : List (List Literal)) (n : Numbered) (after : List (List Literal)) (next : ℕ) :
    Type 0 where
  pub item : n ≡ Count inputs g.tree multiplier
  pub clauses : after ≡ before ++ g.clauses
  pub fresh : next ≡ g.fresh

-- what a form line may spell
abbrev pub IsFact : NamedFact → Type 0
IsFact f = f.weight < NUMBER_LIMIT

-- the facts are there, and there is room for their terms
abbrev pub HasFactRoom : Clauses → Forms → List NamedFact → Type 0
HasFactRoom at s facts =
    (n : ℕ) × (facts_size at s.numbered facts ≡ Some n) × (s.terms + n ≤ MOST_TERMS)

-- why there is no room for the facts, if there is none
abbrev pub HasSizeFault : Clauses → Forms → List NamedFact → Option LineFault → Type 0
HasSizeFault at s facts None = HasFactRoom at s facts
HasSizeFault at s facts (Some Name) = facts_size at s.numbered facts ≡ None
HasSizeFault at s facts (Some Limit) =
    (n : ℕ) × (facts_size at s.numbered facts ≡ Some n) × (MOST_TERMS < s.terms + n)
HasSizeFault at s facts (Some Worth) = ⊥

-- why a form line is refused, or what it leaves
abbrev pub HasFormFault : Clauses → Option ℕ → List NamedFact → Forms → Option LineFault → Type 0
HasFormFault at scale facts s None =
    HasFactRoom at s facts × (form_line at scale facts s ≡ Ok (less_facts at (begun scale s) facts))
HasFormFault at scale facts s (Some fault) = form_line at scale facts s ≡ Err fault
