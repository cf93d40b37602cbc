-- What the checker's parts answer, in the terms of the verdict.
use Rattle.std.specs.Prelude.{◌≡◌, ℕ, ◌<◌, ◌≤◌, Bool, false, List, [], ◌∷◌, ◌++◌, length, nat_eq}
use Rattle.std.specs.Prelude.{◌+◌, Option, Some, None, map, drop}
use Rattle.std.specs.Prelude.{All}
use Rattle.cnf.specs.Literal.{Literal}
pub use Rattle.cnf.specs.Clause.{HaveSame}
use Rattle.cnf.specs.Lrat.{Live}
use Rattle.cnf.specs.Refute.{Clauses}
use Rattle.cnf.specs.Clause.{IsClauseWithin}
use Rattle.lrat_live.specs.Listed.{listed_at, IsRising}
use Rattle.lrat_machine.specs.declared.verdicts.Cause.{Cause}
use Rattle.lrat_read.specs.Reader.{LineState, is_large_clause}
use Rattle.lrat_machine.specs.Verdict.{addition_fault, HintWalk, Open, Refuted, Fault}
use Rattle.lrat_machine.specs.Verdict.{HintOutcome, NotUnit, Conflict, Makes, walk}
use Rattle.lrat_machine.specs.declared.hints.Effect.{Effect}
use Rattle.lrat_machine.specs.declared.hints.Effect.TheVariants.{Conflict as HasConflict}
use Rattle.lrat_machine.specs.declared.hints.Effect.TheVariants.{Makes as HasMade}
use Rattle.lrat_machine.specs.declared.hints.Effect.TheVariants.{NotUnit as HasMany}
use Rattle.lrat_machine.specs.declared.hints.Walked.{Walked}
use Rattle.lrat_machine.specs.declared.hints.Walked.TheVariants.{Open as IsOpen}
use Rattle.lrat_machine.specs.declared.hints.Walked.TheVariants.{Refuted as IsRefuted}
use Rattle.lrat_machine.specs.declared.hints.Walked.TheVariants.{Fault as IsFault}

-- the live clauses and the last id
abbrev pub live_of : ℕ → List (ℕ × List Literal) → Live
live_of last es = record { clause_at = listed_at es; last = last }

-- no id is above last
abbrev pub IsUpTo : ℕ → List (ℕ × List Literal) → Type 0
IsUpTo last es = All (λ e. e.0 ≤ last) es

-- what is known of the live clauses between lines
pub record IsBase (variables last : ℕ) (es : List (ℕ × List Literal)) : Type 0 where
  pub rising : IsRising es
  pub from_one : All (λ e. 0 < e.0) es
  pub up_to : IsUpTo last es
  pub within : All (λ e. IsClauseWithin variables e.1) es

-- the line's clause is live from now on, under an id above the last
pub record Adds (old : List (ℕ × List Literal)) (last : ℕ) (s : LineState)
    (new : List (ℕ × List Literal)) (next : ℕ) (ended : Bool) : Type 0 where
  pub small : s.is_large ≡ false
  pub clauses : new ≡ old ++ (s.id, s.clause) ∷ []
  pub next_is : next ≡ s.id
  pub ended_is : ended ≡ nat_eq (length s.clause) 0
  pub rising : last < s.id

abbrev pub outcome_as : Effect → HintOutcome
outcome_as HasConflict = Conflict
outcome_as (HasMade l) = Makes l
outcome_as HasMany = NotUnit

abbrev pub walked_as : Walked → List Literal → HintWalk
walked_as IsOpen A = Open A
walked_as IsRefuted A = Refuted
walked_as (IsFault f) A = Fault f

-- two walks end alike
abbrev pub EndAlike : HintWalk → HintWalk → Type 0
EndAlike (Open A) (Open B) = HaveSame A B
EndAlike Refuted Refuted = Unit {0}
EndAlike (Fault f) (Fault g) = f ≡ g
EndAlike v w = ⊥

-- hint i was followed from A to B: the walk goes on with those after it, or has ended
abbrev pub IsFollowed : Clauses → List (Bool × ℕ) → ℕ → List Literal → List Literal
    → Option Walked → Type 0
IsFollowed at hints i A B None =
    EndAlike (walk at A (map (λ h. h.1) (drop i hints)))
    (walk at B (map (λ h. h.1) (drop (i + 1) hints)))
IsFollowed at hints i A B (Some w) =
    EndAlike (walk at A (map (λ h. h.1) (drop i hints))) (walked_as w B)

-- the first fault of the line's clause, where a literal of a large clause was left out
abbrev pub IsFaultOf : Live → LineState → Option Cause → Type 0
IsFaultOf live s f =
    (c : List Literal) → is_large_clause c ≡ s.is_large → (s.is_large ≡ false → c ≡ s.clause)
    → f ≡ addition_fault live s.id c s.hints
