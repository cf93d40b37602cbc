-- Additions by RUP alone, deletions, and clauses that lines make, over a list of live clauses.
use Rattle.std.specs.Prelude.{◌≡◌, ℕ, ◌<◌, Bool, false, ◌||◌, List, [], ◌∷◌, ◌++◌, map, Option}
use Rattle.std.specs.Prelude.{Some, None, is_some, nat_le, if◌then◌else◌}
use Rattle.std.specs.List.{list_any}
use Rattle.cnf.specs.Literal.{Literal, negation}
use Rattle.cnf.specs.Clause.{has_repeat, is_tautology}
use Rattle.cnf.specs.Lrat.{Live, CandidateHints}
use Rattle.cnf.specs.declared.limits.TheConstants.{VARIABLE_LIMIT}
use Rattle.lrat_live.specs.Listed.{Listed, listed_at, without_id}
use Rattle.lrat_read.specs.Form.{leading, groups_of}
use Rattle.lrat_read.specs.Reader.{LineState, is_large_clause}
use Rattle.lrat_machine.specs.Steps.{live_of}
use Rattle.lrat_machine.specs.Verdict.{HintWalk, Open, Refuted, Fault, walk}
use Rattle.lrat_machine.specs.declared.verdicts.Cause.{Cause}
use Rattle.lrat_machine.specs.declared.verdicts.Cause.TheVariants.{IdOrder, ClauseForm}
use Rattle.lrat_machine.specs.declared.verdicts.Cause.TheVariants.{HintAfterConflict, NoConflict}

-- the live clauses, and the id of the last one that came
pub record RupState : Type 0 where
  pub clauses : Listed
  pub last : ℕ

-- the leading hints have to end in a conflict, and there may be no groups
abbrev pub end_fault : HintWalk → List CandidateHints → Option Cause
end_fault (Fault f) gs = Some f
end_fault Refuted [] = None
end_fault Refuted (g ∷ gs) = Some HintAfterConflict
end_fault (Open B) gs = Some NoConflict

-- the first fault of an addition
abbrev pub rup_fault : Live → ℕ → List Literal → List (Bool × ℕ) → Option Cause
rup_fault live id c hints =
    if nat_le id live.last then Some IdOrder
    else if has_repeat c || is_tautology c
    || list_any (λ l. nat_le VARIABLE_LIMIT l.variable) c then Some ClauseForm
    else end_fault (walk live.clause_at (map negation c) (leading hints)) (groups_of hints)

-- after the ids of a deletion, in order
abbrev pub deleted_from : Listed → List ℕ → Option Listed
deleted_from es [] = Some es
deleted_from es (i ∷ is) =
    if is_some (listed_at es i) then deleted_from (without_id i es) is else None

-- a clause is live under an id
abbrev pub with_listed : ℕ → List Literal → RupState → RupState
with_listed id c s = record { clauses = s.clauses ++ (id, c) ∷ []; last = id }

-- the first fault of the line, where a literal of a large clause was left out
abbrev pub IsRupFaultOf : RupState → LineState → Option Cause → Type 0
IsRupFaultOf s line f =
    (c : List Literal) → is_large_clause c ≡ line.is_large
    → (line.is_large ≡ false → c ≡ line.clause)
    → f ≡ rup_fault (live_of s.last s.clauses) line.id c line.hints

-- the line's clause is live from now on
pub record AddsByRup (old : RupState) (line : LineState) (new : RupState) : Type 0 where
  pub small : line.is_large ≡ false
  pub rising : old.last < line.id
  pub is : new ≡ with_listed line.id line.clause old
