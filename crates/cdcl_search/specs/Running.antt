-- What holds of a search between its moves, and what moves do.
use Rattle.std.specs.Prelude.{◌≡◌, ℕ, ◌+◌, ◌<◌, ◌≤◌, Bool, true, false, List, [], ◌∷◌, ◌++◌, length}
use Rattle.std.specs.Prelude.{take, map, Some, All}
use Rattle.cnf.specs.Literal.{Literal}
use Rattle.cnf.specs.Formula.{IsFormulaClause}
use Rattle.cnf.specs.declared.limits.TheConstants.{VARIABLE_LIMIT, FORMULA_VARIABLE_LIMIT}
use Rattle.propagate.specs.Trail.{Assigned, literals_of}
use Rattle.propagate.specs.Watches.{SetsAttached}
use Rattle.propagate.specs.Fits.{Fits, IsWithin}
use Rattle.analyze.specs.Analyzer.{IsFixpoint}
use Rattle.lrat_log.specs.declared.lines.Name.{Name}
use Rattle.lrat_log.specs.declared.lines.Name.TheVariants.{Added}
use Rattle.lrat_log.specs.declared.log.TheConstants.{LINE_LIMIT}
use Rattle.lrat_log.specs.Log.{LogLine, Given}
use Rattle.lrat_log.specs.Steps.{AddsNoEmptyClause, IsBaseOf, given_of, learned_count}
use Rattle.lrat_log.specs.Steps.{IsLearnedOrShort, LearnsNew, nothing_exempt, adds_empty_clause}
use Rattle.lrat_log.specs.Axioms.{StaysOpenLogOver, TakesNoAxiom, FollowByRup}
use Rattle.cdcl_search.specs.declared.input.Input.{Input}
use Rattle.cdcl_search.specs.declared.search.Search.{Search}
use Rattle.cdcl_search.specs.Invariant.{Tables, Searches, IsRunning, zero_of}
use Rattle.std.specs.List.{list_any}

-- The state of a search.

abbrev pub tables_of : Search → Tables
tables_of s = record {
  names = (s.names).items;
  units = (s.units).items;
  noted = s.noted;
  kept = s.kept;
  additions = s.additions;
}

-- the parts that go by variable have a place for each
pub record HasRoom (s : Search) : Type 0 where
  pub policy : (s.policy).variables ≡ (s.engine).variables
  pub analyzer : (s.engine).variables < s.analyzer
  pub few : (s.engine).variables < VARIABLE_LIMIT
  pub stamps : length (s.stamps).items ≡ (s.engine).variables
  pub units : length (s.units).items ≡ (s.engine).variables

-- what each move asks for
pub record IsReady (s : Search) : Type 0 where
  pub searches : Searches s.engine (s.store).slots
  pub room : HasRoom s
  pub named : length (s.names).items ≡ length (s.store).slots

-- what it takes to attach a clause
pub record CanAttach (s : Search) (c : List Literal) : Type 0 where
  pub ready : IsReady s
  pub within : IsWithin (s.engine).variables c

-- what a decision asks for: no clause is false or unit, and each literal of level 0 has a clause of
-- its own
pub record CanDecide (s : Search) : Type 0 where
  pub ready : IsReady s
  pub fixpoint : IsFixpoint (s.store).slots (literals_of (s.engine).trail)
  pub noted : length (zero_of (s.engine).trail) ≤ s.noted

-- it goes on over the clauses given, with these lines written
pub record Runs (s : Search) (p : Input) (ls : List LogLine) : Type 0 where
  pub running : IsRunning s.engine (s.store).slots p.stack (tables_of s) (p.frozen).items p.first
      p.given ls
  pub room : HasRoom s
  -- no line before the next addition has its number as a stamp
  pub past : All (λ n. n ≤ s.additions) (s.stamps).items
  pub few : s.additions < LINE_LIMIT

-- what is known of the clauses given
pub record IsInput (p : Input) : Type 0 where
  -- the first of them are the formula, and all have numbers
  pub numbered : given_of (map (λ g. g.1) (take p.first p.given))
      ≡ take p.first p.given
  pub first_within : p.first ≤ length p.given
  pub based : (base : ℕ) × IsBaseOf p.given base
  pub few_given : length (p.frozen).items < FORMULA_VARIABLE_LIMIT
  pub few : (p.stack).variables < VARIABLE_LIMIT
  pub no_fewer : length (p.frozen).items ≤ (p.stack).variables
  pub given_small : All (λ g. IsFormulaClause (length (p.frozen).items) g.1) p.given

-- Moves.

abbrev pub KeepsRunning : Search → Search → Type 0
KeepsRunning old new = (p : Input) (ls : List LogLine) → Runs old p ls → Runs new p ls

-- the engine moved alone, over the same variables
pub record EngineMoves (old new : Search) : Type 0 where
  pub variables : (new.engine).variables ≡ (old.engine).variables
  pub rest : new ≡ record old { engine = new.engine }

-- the engine moved alone, to this trail: the search goes on, and is ready for what comes next
pub record MovesTo (old new : Search) (T : List Assigned) : Type 0 where
  pub runs : KeepsRunning old new
  pub ready : IsReady new
  pub trail : (new.engine).trail ≡ T
  pub engine : EngineMoves old new

-- a clause came under a name, the last of the store
pub record Stores (old new : Search) (n : Name) (c : List Literal) : Type 0 where
  pub slots : (new.store).slots ≡ (old.store).slots ++ Some c ∷ []
  pub names : (new.names).items ≡ (old.names).items ++ n ∷ []
  pub attached : SetsAttached old.engine new.engine (length (old.store).slots) true
  pub trail : (new.engine).trail ≡ (old.engine).trail
  pub variables : (new.engine).variables ≡ (old.engine).variables
  pub works : (new.engine).failed ≡ false
  pub fits : Fits new.engine ((old.store).slots ++ Some c ∷ [])
  pub units : new.units ≡ old.units
  pub noted : new.noted ≡ old.noted
  pub kept : new.kept ≡ old.kept
  pub stamps : new.stamps ≡ old.stamps
  pub policy : new.policy ≡ old.policy
  pub analyzer : new.analyzer ≡ old.analyzer

-- The log.

-- a clause came under the name of the next addition, and its line was written last
pub record LogsLine (old new : Search) (before after : List LogLine) (l : LogLine) : Type 0 where
  pub stored : Stores old new (Added (old.additions + 1)) l.clause
  pub additions : new.additions ≡ old.additions + 1
  pub few : new.additions < LINE_LIMIT
  pub lines : after ≡ before ++ l ∷ []

-- what was written between two moments: the lines after `before`, of which `learned` were learned,
-- and none came from outside
pub record Writes (given : Given) (before after : List LogLine) (learned : ℕ) : Type 0 where
  pub more : List LogLine
  pub grows : after ≡ before ++ more
  pub short : All IsLearnedOrShort more
  pub learned_is : learned_count more ≡ learned
  pub new : (base : ℕ) → IsBaseOf given base → LearnsNew nothing_exempt given base before more
  pub own : TakesNoAxiom more
  pub follows : (base : ℕ) → IsBaseOf given base → FollowByRup given base before more

-- the empty clause was added
abbrev pub is_refuted : List LogLine → Bool
is_refuted ls = list_any adds_empty_clause ls

-- a log to which lines may be added, now and after further clauses are given
pub record StaysOpen (p : Input) (ls : List LogLine) : Type 0 where
  pub stays : StaysOpenLogOver (length (p.frozen).items) p.given ls
  pub unrefuted : AddsNoEmptyClause ls

-- a log that ends in the empty clause
pub record IsEnded (p : Input) (ls : List LogLine) : Type 0 where
  pub stays : StaysOpenLogOver (length (p.frozen).items) p.given ls
  pub refuted : is_refuted ls ≡ true
