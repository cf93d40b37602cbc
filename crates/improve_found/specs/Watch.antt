-- What was shown of a search to who looks on, beside what was told of it.
use Rattle.std.specs.Prelude.{◌≡◌, ℕ, ◌+◌, Bool, List, ◌++◌, map, All, Option}
use Rattle.cnf.specs.Problem.{Problem}
use Rattle.cdcl_order.specs.Watch.{Sight, Better, with_seen}
use Rattle.improve_found.specs.Progress.{Telling, TellsAllButLast}
use Rattle.improve_found.specs.Solutions.{IsSolution}

-- bits with their cost, as they are shown
abbrev pub better_of : Problem → ℕ × List Bool → Sight
better_of p s = Better p s.0 s.1

abbrev pub costs_shown : List (ℕ × List Bool) → List ℕ
costs_shown solutions = map (λ s. s.0) solutions

-- Just these solutions were shown since, each once, in their order. Their costs are those that were
-- told since, but for that of the last one where telling failed.
pub record AreShown (p : Problem) (old new : Telling) (before after : Option (List Sight))
    : Type 0 where
  pub solutions : List (ℕ × List Bool)
  pub each : All (λ s. IsSolution p s.1 s.0) solutions
  pub seen : after ≡ with_seen (map (better_of p) solutions) before
  pub told : new.failures ≡ old.failures → new.told ≡ old.told ++ costs_shown solutions
  pub failed : new.failures ≡ old.failures + 1 → (told : List ℕ)
      × (new.told ≡ old.told ++ told) × TellsAllButLast (costs_shown solutions) told new.failed
