-- The checker of forms and cuts between lines, and what a line comes to.
use Rattle.std.specs.Prelude.{◌≡◌, ℕ, ◌+◌, max, List, [], ◌∷◌, ◌++◌, length, Option, Some, None}
use Rattle.std.specs.Prelude.{Result, Ok, Err, if◌then◌else◌}
use Rattle.cnf.specs.Clause.{is_empty_clause}
use Rattle.cnf.specs.Literal.{Literal}
use Rattle.forms.specs.Forms.{Forms, heard}
use Rattle.lrat_live.specs.Listed.{listed_from}
use Rattle.lrat_read.specs.Words.{WordLine, word_line_of}
use Rattle.lrat_machine.specs.declared.verdicts.Cause.{Cause}
use Rattle.lrat_cuts.specs.Cuts.{CutsState, judged_line, judged_lines}

pub record MachineState : Type 0 where
  -- what the lines so far leave
  pub state : CutsState
  -- the cost that cuts have to hold for, if there is one
  pub cost : Option ℕ
  -- how many lines there were
  pub lines : ℕ
  -- the clauses that the last line made
  pub made : List (List Literal)

-- a clause is live from now on, whatever its id
abbrev pub took : List Literal → CutsState → CutsState
took c s = record s {
  forms = heard c s.forms;
  ended = is_empty_clause c;
  proved = if is_empty_clause c then max s.proved s.worth else s.proved;
}

-- clauses are live one after the other
abbrev pub heard_all : List (List Literal) → Forms → Forms
heard_all [] f = f
heard_all (c ∷ cs) f = heard_all cs (heard c f)

-- the line leads on to a state, or it has this fault
abbrev pub LeadsTo : Result CutsState Cause → CutsState → Option Cause → Type 0
LeadsTo line new None = line ≡ Ok new
LeadsTo line new (Some fault) = line ≡ Err fault

-- these clauses are live, and none else is new, under the ids that follow the last one
pub record Puts (old : CutsState) (clauses : List (List Literal)) (new : CutsState) : Type 0 where
  pub live : new.live ≡ old.live ++ listed_from (old.last + 1) clauses
  pub last : new.last ≡ old.last + length clauses

-- the clauses that a line makes of itself, where it begins with a word; an addition and a deletion
-- make none
abbrev pub Makes : List (List ℕ) → CutsState → List (List Literal) → CutsState → Type 0
Makes ts old clauses new = by (word_line_of ts)
  where
    by : Option (Option WordLine) → Type 0
    by None = clauses ≡ []
    by (Some line) = Puts old clauses new

-- a line with these tokens is judged
pub record StepsTo (old : MachineState) (ts : List (List ℕ)) (fault : Option Cause)
    (new : MachineState) : Type 0 where
  pub judged : LeadsTo (judged_line old.cost old.state ts) new.state fault
  pub made : fault ≡ None → Makes ts old.state new.made new.state
  pub cost : new.cost ≡ old.cost
  pub lines : new.lines ≡ old.lines + 1

-- what lines come to that follow, each as its tokens
abbrev pub judged_after : MachineState → List (List (List ℕ)) → Result CutsState (Cause × ℕ)
judged_after m more = judged_lines m.cost m.state (m.lines + 1) more
