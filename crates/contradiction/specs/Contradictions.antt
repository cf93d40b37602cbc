-- Hard clauses that contradict each other.
use Rattle.std.specs.Prelude.{ℕ, ◌<◌, List, [], length, map, All, ⊤, slice_index_or}
use Rattle.cnf.specs.Literal.{Assignment, Literal}
use Rattle.cnf.specs.Clause.{Satisfies}
use Rattle.cnf.specs.Problem.{Problem, IsInconsistent}
use Rattle.contradiction.specs.declared.finding.Finding.{Finding}
use Rattle.contradiction.specs.declared.finding.Finding.TheVariants.{Contradiction, Solution, Open}
use Rattle.contradiction.specs.declared.trials.Trial.{Trial}
use Rattle.contradiction.specs.declared.trials.Trial.TheVariants.{Contradiction as IsContradiction}
use Rattle.contradiction.specs.declared.trials.Trial.TheVariants.{Solution as IsSolved}
use Rattle.contradiction.specs.declared.trials.Trial.TheVariants.{Open as IsLeftOpen}

-- the clauses at these places, which count from 0
abbrev pub clauses_at : List (List Literal) → List ℕ → List (List Literal)
clauses_at cs places = map (λ k. slice_index_or cs k []) places

-- they are hard clauses of the instance, and no assignment satisfies them all
pub record AreContradictory (p : Problem) (places : List ℕ) : Type 0 where
  pub within : All (λ k. k < length p.hard) places
  pub none : (t : Assignment) → All (Satisfies t) (clauses_at p.hard places) → ⊥

-- what is found out of an instance is so
abbrev pub IsTrueFinding : Problem → Finding → Type 0
IsTrueFinding p (Contradiction places) = AreContradictory p places.items
IsTrueFinding p Solution = IsInconsistent p → ⊥
IsTrueFinding p Open = ⊤

-- what a run on some clauses says of them is so
abbrev pub IsTrueTrial : Problem → List ℕ → Trial → Type 0
IsTrueTrial p places (IsContradiction proof) = AreContradictory p places
IsTrueTrial p places (IsSolved bits) = ⊤
IsTrueTrial p places IsLeftOpen = ⊤

-- the same of a run on an instance
abbrev pub IsRefuted : Problem → Trial → Type 0
IsRefuted p (IsContradiction proof) = IsInconsistent p
IsRefuted p (IsSolved bits) = ⊤
IsRefuted p IsLeftOpen = ⊤
