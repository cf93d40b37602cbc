-- Bounded variable elimination. One variable goes: its clauses are found, their resolvents are
-- added, and then they are deleted.
use Rattle.std.specs.Prelude.{◌≡◌, ℕ, Bool, true, false, List, length, Some, ◌⊎◌, All}
use Rattle.std.specs.Prelude.{Contains, Result, MatchResult}
use Rattle.cnf.specs.Literal.{Literal, negation}
use Rattle.cnf.specs.Clause.{contains_literal, is_tautology}
use Rattle.clauses.specs.Slots.{Slots, clause_at}
use Rattle.lrat_log.specs.declared.lines.Name.{Name}
use Rattle.lrat_log.specs.Log.{LogLine, Given}
use Rattle.lrat_log.specs.Steps.{StaysLogOver, AddsNoEmptyClause, learned_count}
use Rattle.eliminate.specs.declared.simplifier.Simplifier.{Simplifier}
use Rattle.eliminate_tables.specs.Resolvents.{resolvent}
use Rattle.eliminate.specs.State.{Start}
use Rattle.eliminate.specs.Simplifier.{IsSimplified, IsLogOf, Grows}
use Rattle.eliminate_names.specs.Work.{IsWork}

-- a simplified form of some formula, of which these variables are frozen
abbrev pub IsSimplifierOver : List Bool → Simplifier → Slots → List LogLine → Type 0
IsSimplifierOver frozen s slots lines = (start : Start) × (start.frozen ≡ frozen)
    × IsSimplified start s slots lines

-- and the empty clause was not added
pub record IsOpenOver (frozen : List Bool) (s : Simplifier) (slots : Slots)
    (lines : List LogLine) : Type 0 where
  pub simplified : IsSimplifierOver frozen s slots lines
  pub going : s.is_refuted ≡ false

abbrev pub StaysOver : List Bool → Simplifier → Slots → List LogLine → Simplifier → Slots
    → List LogLine → Type 0
StaysOver frozen s slots lines t left more = (start : Start) → start.frozen ≡ frozen
    → IsSimplified start s slots lines → IsSimplified start t left more

abbrev pub LeavesLogOver : List Bool → Simplifier → Slots → List LogLine → List LogLine → Type 0
LeavesLogOver frozen s slots lines more = (start : Start) → start.frozen ≡ frozen
    → IsSimplified start s slots lines → IsLogOf start more

-- what a pass over a formula with these frozen variables leaves
abbrev pub PassesOver : {T E : Type 0} → List Bool → Result T E → Simplifier → Slots
    → List LogLine → Simplifier → Slots → List LogLine → Type 0
PassesOver frozen result s slots lines t left more =
    MatchResult result (λ _. StaysOver frozen s slots lines t left more)
    (λ _. LeavesLogOver frozen s slots lines more)

-- the reference is that of a live clause with the literal
abbrev pub IsWith : Literal → Slots → ℕ → Type 0
IsWith l slots r = (c : List Literal) × (clause_at slots r ≡ Some c) × (contains_literal l c ≡ true)

-- these are the references of just the live clauses with the literal
pub record AreThoseWith (l : Literal) (slots : Slots) (references : List ℕ) : Type 0 where
  pub with_it : All (IsWith l slots) references
  pub all : (r : ℕ) → IsWith l slots r → Contains references r

-- a clause has neither the literal nor its negation
pub record LacksBoth (l : Literal) (c : List Literal) : Type 0 where
  pub not_it : contains_literal l c ≡ false
  pub not_negation : contains_literal (negation l) c ≡ false

-- each clause keeps its place, and what came has neither the literal nor its negation
pub record GrowsWithout (l : Literal) (slots more : Slots) : Type 0 where
  pub kept : Grows slots more
  pub came : (r : ℕ) (c : List Literal) → clause_at more r ≡ Some c
      → (clause_at slots r ≡ Some c) ⊎ LacksBoth l c

-- the resolvent of two clauses has complementary literals or is there
abbrev pub IsResolvedIn : Slots → Literal → List Literal → List Literal → Type 0
IsResolvedIn slots p c d = (is_tautology (resolvent p c d) ≡ true)
    ⊎ ((r : ℕ) × (clause_at slots r ≡ Some (resolvent p c d)))

-- so is that of the clauses under two references, which the store before has
abbrev pub IsPairResolved : Literal → Slots → Slots → ℕ → ℕ → Type 0
IsPairResolved p slots more first second =
    (c d : List Literal) → clause_at slots first ≡ Some c → clause_at slots second ≡ Some d
    → IsResolvedIn more p c d

abbrev pub ArePairsResolved : Literal → Slots → Slots → List ℕ → List ℕ → Type 0
ArePairsResolved p slots more firsts seconds =
    All (λ first. All (IsPairResolved p slots more first) seconds) firsts

-- just the clauses under these references were deleted
pub record LeavesOut (references : List ℕ) (slots left : Slots) : Type 0 where
  pub long : length left ≡ length slots
  pub stays : (r : ℕ) (c : List Literal) → clause_at left r ≡ Some c → clause_at slots r ≡ Some c
  pub gone : (r : ℕ) (c : List Literal) → clause_at left r ≡ Some c → Contains references r → ⊥
  pub each : (r : ℕ) (c : List Literal) → clause_at slots r ≡ Some c
      → (clause_at left r ≡ Some c) ⊎ Contains references r

-- what belongs together still does
abbrev pub KeepsWork : List Name → Slots → List LogLine → Slots → List LogLine → Type 0
KeepsWork names slots lines left more = (first variables : ℕ) (given : Given)
    → IsWork first variables given slots names lines → AddsNoEmptyClause lines
    → IsWork first variables given left names more × AddsNoEmptyClause more

abbrev pub KeepsLog : List Name → Slots → List LogLine → List LogLine → Type 0
KeepsLog names slots lines more = (first variables : ℕ) (given : Given)
    → IsWork first variables given slots names lines → AddsNoEmptyClause lines
    → StaysLogOver first given more × (learned_count more ≡ 0)
