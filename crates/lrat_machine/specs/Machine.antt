-- What the checker knows after some lines, and the verdict where further lines follow.
use Rattle.std.specs.Prelude.{◌≡◌, ℕ, ◌+◌, Bool, List, ◌∷◌, Option, MatchOption, Result, Ok, Err}
use Rattle.std.specs.declared.alloc.AllocError.{AllocError}
use Rattle.cnf.specs.Literal.{Literal}
use Rattle.cnf.specs.Lrat.{Live}
use Rattle.lrat_live.specs.Listed.{listed_at}
pub use Rattle.lrat_live.specs.Listed.{listed_from}
use Rattle.lrat_read.specs.Reader.{LineState, IsReadAs}
use Rattle.lrat_read.specs.declared.types.Form.{Form}
use Rattle.lrat_machine.specs.Verdict.{verdict_on}
use Rattle.lrat_machine.specs.declared.state.ClauseBase.{ClauseBase}
use Rattle.lrat_machine.specs.declared.verdicts.Cause.{Cause}
use Rattle.lrat_machine.specs.declared.verdicts.Verdict.{Verdict}
use Rattle.lrat_machine.specs.declared.verdicts.Verdict.TheVariants.{No}

pub record MachineState : Type 0 where
  pub clauses : List (ℕ × List Literal)
  pub last : ℕ
  -- the empty clause was added
  pub ended : Bool
  -- how many lines there were
  pub lines : ℕ

-- what `lines` lines left
abbrev pub state_with : ClauseBase → ℕ → MachineState
state_with base lines = record {
  clauses = base.live;
  last = base.last;
  ended = base.ended;
  lines = lines;
}

-- the same with n lines more, of which none has a token
abbrev pub after_lines : MachineState → ℕ → MachineState
after_lines s n = record {
  clauses = s.clauses;
  last = s.last;
  ended = s.ended;
  lines = s.lines + n;
}

abbrev pub live_in : MachineState → Live
live_in s = record { clause_at = listed_at s.clauses; last = s.last }

-- the verdict where these lines still come, each as its tokens
abbrev pub verdict_after : MachineState → List (List (List ℕ)) → Verdict
verdict_after s more = verdict_on (live_in s) s.ended (s.lines + 1) more

-- a line with these tokens leads on to a state, or the certificate fails at it
abbrev pub StepsTo : MachineState → List (List ℕ) → Option Cause → MachineState → Type 0
StepsTo old ts fault new =
    (more : List (List (List ℕ)))
    → MatchOption fault (verdict_after old (ts ∷ more) ≡ verdict_after new more)
    (λ cause. verdict_after old (ts ∷ more) ≡ No cause (old.lines + 1))

-- what came of applying a line of this form: from one base, after `before` lines, it leads on to
-- the other, or the certificate fails at it; where memory was refused, the base is as before
abbrev pub IsApplied : Form → LineState → ClauseBase → ℕ → ClauseBase → ℕ
    → Result (Option Cause) AllocError → Type 0
IsApplied form line old before new after (Ok fault) =
    (ts : List (List ℕ)) → IsReadAs ts form line
    → StepsTo (state_with old before) ts fault (state_with new after)
IsApplied form line old before new after (Err e) = new ≡ old
