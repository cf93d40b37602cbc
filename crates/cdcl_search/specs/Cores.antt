-- Cores: which assumptions cannot hold together.
use Rattle.std.specs.Prelude.{◌≡◌, ℕ, ◌<◌, ◌≤◌, false, List, length, map, Some, None, All, Contains}
use Rattle.std.specs.Prelude.{⊤, ◌⊎◌}
use Rattle.cnf.specs.Literal.{Literal, negation}
use Rattle.cnf.specs.Clause.{has_repeat, is_subset}
use Rattle.clauses.specs.Slots.{Slots, clause_at}
pub use Rattle.propagate.specs.Subsets.{HasSubset}
use Rattle.propagate.specs.Trail.{Assigned, level_in, reason_in}
use Rattle.analyze.specs.declared.analyzer.FinalClause.{FinalClause}
use Rattle.analyze.specs.Analyzer.{IsFalsified, IsFinal}
use Rattle.lrat_log.specs.Log.{LogLine}
use Rattle.cdcl_search.specs.declared.input.Input.{Input}
use Rattle.cdcl_search.specs.declared.search.Search.{Search}
use Rattle.cdcl_search.specs.declared.cores.Refusal.{Refusal}
use Rattle.cdcl_search.specs.declared.cores.Refusal.TheVariants.{Shown, Follows, Unknown}
use Rattle.cdcl_search.specs.Running.{Runs, Writes}

-- no live clause has no literals but those of c
abbrev pub HasNoSubset : Slots → List Literal → Type 0
HasNoSubset slots c = (r : ℕ) (d : List Literal) → clause_at slots r ≡ Some d
    → is_subset d c ≡ false

-- some of the assumptions, each once
pub record AreAssumed (assumptions core : List Literal) : Type 0 where
  pub some : 0 < length core
  pub assumed : All (Contains assumptions) core
  pub once : has_repeat core ≡ false

-- they cannot hold together, as a live clause shows
pub record IsShown (slots : Slots) (assumptions core : List Literal) : Type 0 where
  pub assumed : AreAssumed assumptions core
  pub shown : HasSubset slots (map negation core)

-- the clause is what the analysis of a false literal comes to
pub record IsWhyFalse (s : Search) (literal : Literal) (clause : FinalClause) : Type 0 where
  pub reason : ℕ
  pub falsified : IsFalsified (s.engine).trail literal reason
  pub final : IsFinal (s.store).slots (s.engine).trail literal reason clause

-- no clause made it false: it is at level 0, or its negation was decided
abbrev pub RestsOnNothing : List Assigned → Literal → Type 0
RestsOnNothing trail l =
    (level_in trail l.variable ≡ Some 0) ⊎ (reason_in trail l.variable ≡ None)

-- the clause explains why a literal is false, and no live clause is a subset of it
pub record IsCoreClause (s : Search) (clause : FinalClause) : Type 0 where
  pub literal : Literal
  pub reason : ℕ
  pub falsified : IsFalsified (s.engine).trail literal reason
  pub small : literal.variable ≤ (s.engine).variables
  pub final : IsFinal (s.store).slots (s.engine).trail literal reason clause
  pub new : HasNoSubset (s.store).slots clause.lits.items

-- they cannot hold together, as the clause shows
pub record IsExplained (s : Search) (assumptions core : List Literal)
    (clause : FinalClause) : Type 0 where
  pub assumed : AreAssumed assumptions core
  pub lesson : IsCoreClause s clause
  pub negated : map negation core ≡ clause.lits.items

abbrev pub IsRefusal : Search → List Literal → Refusal → Type 0
IsRefusal s assumptions (Shown core) = IsShown (s.store).slots assumptions core.items
IsRefusal s assumptions (Follows core clause) = IsExplained s assumptions core.items clause
IsRefusal s assumptions Unknown = ⊤

-- The clause of a core was learned.
pub record LearnsCore (old new : Search) (p : Input) (before after : List LogLine)
    (c : List Literal) : Type 0 where
  pub runs : Runs new p after
  pub writes : Writes p.given before after 1
  pub has : HasSubset (new.store).slots c
