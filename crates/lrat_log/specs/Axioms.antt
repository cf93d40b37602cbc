-- Logs that take clauses from outside: each is a line that need not follow from what is live.
use Rattle.std.specs.Prelude.{◌≡◌, ℕ, ◌+◌, ◌<◌, ◌≤◌, true, false, List, [], ◌∷◌, ◌++◌, All, ◌⊎◌}
use Rattle.std.specs.Prelude.{if◌then◌else◌}
use Rattle.std.specs.List.{AllByRecursion}
use Rattle.cnf.specs.Literal.{Literal}
use Rattle.cnf.specs.Clause.{has_repeat, is_tautology, greatest_variable}
use Rattle.cnf.specs.Lrat.{Live, Step, IsAddable, with_clause}
use Rattle.cnf.specs.declared.limits.TheConstants.{VARIABLE_LIMIT}
use Rattle.lrat_log.specs.Log.{LogLine, Given, start_over, numbered_line, numbered_lines}
use Rattle.lrat_log.specs.Log.{is_delete, is_axiom}
use Rattle.lrat_log.specs.Steps.{live_after, log_live, IsBaseOf, StopsAtEmptyClause, IsOwnGroup}
use Rattle.lrat_log.specs.Steps.{IsByRup}

-- a clause that may be added
pub record IsNewClause (c : List Literal) : Type 0 where
  pub no_repeat : has_repeat c ≡ false
  pub no_tautology : is_tautology c ≡ false
  pub small : greatest_variable c < VARIABLE_LIMIT

-- a clause from outside comes under the next id
pub record AddsAxiom (id : ℕ) (old : Live) (l : LogLine) (new : Live) : Type 0 where
  pub kind : is_axiom l.kind ≡ true
  pub addable : IsAddable old id l.clause
  pub live : new ≡ with_clause old id l.clause

-- the line, where the log has `before` additions before it, is a clause from outside or a step
abbrev pub IsOpenStep : ℕ → ℕ → Live → LogLine → Live → Type 0
IsOpenStep base before old l new =
    AddsAxiom (base + before + 1) old l new ⊎ Step old (numbered_line base before l) new

-- such lines, one after another
abbrev pub OpenChain : ℕ → ℕ → Live → List LogLine → Live → Type 0
OpenChain base before old [] new = new ≡ old
OpenChain base before old (l ∷ ls) new = (mid : Live) × IsOpenStep base before old l mid
    × OpenChain base (if is_delete l.kind then before else before + 1) mid ls new

-- the lines are so from the clauses given, whatever the base
abbrev pub AreOpenLogSteps : Given → List LogLine → Type 0
AreOpenLogSteps given ls = (base : ℕ) → IsBaseOf given base
    → OpenChain base 0 (start_over given base) ls
    (live_after (start_over given base) (numbered_lines base ls))

-- a log over the clauses given that takes clauses from outside
pub record IsOpenLogOver (given : Given) (ls : List LogLine) : Type 0 where
  pub steps : AreOpenLogSteps given ls
  pub stops : StopsAtEmptyClause ls
  pub groups : All (λ l. All IsOwnGroup l.hints) ls

-- and it stays one where further clauses with these variables are given
abbrev pub StaysOpenLogOver : ℕ → Given → List LogLine → Type 0
StaysOpenLogOver variables given ls = (more : Given)
    → All (λ g. greatest_variable g.1 ≤ variables) more → IsOpenLogOver (given ++ more) ls

-- no line takes a clause from outside
abbrev pub TakesNoAxiom : List LogLine → Type 0
TakesNoAxiom ls = AllByRecursion (λ l. is_axiom l.kind ≡ false) ls

-- each addition but those from outside follows by its hints alone, without groups, from what is
-- live before it
abbrev pub FollowByRup : Given → ℕ → List LogLine → List LogLine → Type 0
FollowByRup given base before [] = Unit {0}
FollowByRup given base before (l ∷ ls) =
    (is_delete l.kind ≡ false → is_axiom l.kind ≡ false
    → IsByRup base (log_live given base before) l)
    × FollowByRup given base (before ++ l ∷ []) ls
