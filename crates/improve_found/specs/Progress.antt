-- What was told of solutions, and what could not be told.
use Rattle.std.specs.Prelude.{◌≡◌, ℕ, ◌+◌, ◌^◌, ◌<◌, List, [], ◌∷◌, ◌++◌, Option, Some, Result, Ok}
use Rattle.std.specs.Prelude.{Err}
use Rattle.improve_found.specs.declared.found.ImproveFault.{ImproveFault}
use Rattle.improve_found.specs.declared.found.ImproveFault.TheVariants.{Memory, Progress}

pub record Telling : Type 0 where
  -- the costs told, in their order
  pub told : List ℕ
  -- the cost that it failed to tell last
  pub failed : Option ℕ
  -- how often it failed
  pub failures : ℕ

-- one failure more can be counted
abbrev pub CanFail : Telling → Type 0
CanFail t = t.failures < 2 ^ 62

-- this cost was told too
abbrev pub with_told : ℕ → Telling → Telling
with_told c t = record t { told = t.told ++ c ∷ [] }

-- this cost could not be told
abbrev pub with_failed : ℕ → Telling → Telling
with_failed c t = record t { failed = Some c; failures = t.failures + 1 }

abbrev pub AreFalling : List ℕ → Type 0
AreFalling [] = Unit {0}
AreFalling (c ∷ []) = Unit {0}
AreFalling (c ∷ d ∷ cs) = (d < c) × AreFalling (d ∷ cs)

abbrev pub EndsWith : List ℕ → ℕ → Type 0
EndsWith costs c = (before : List ℕ) × (costs ≡ before ++ c ∷ [])

-- all that was tried was told but the last cost, where telling failed
pub record TellsAllButLast (tried told : List ℕ) (failed : Option ℕ) : Type 0 where
  pub last : ℕ
  pub last_failed : failed ≡ Some last
  pub tried_is : tried ≡ told ++ last ∷ []

-- what was tried was told, but for a last cost where that failed
abbrev pub TellsOf : {A : Type 0} → Result A ImproveFault → List ℕ → List ℕ → Option ℕ → Type 0
TellsOf (Ok found) tried told failed = tried ≡ told
TellsOf (Err Memory) tried told failed = tried ≡ told
TellsOf (Err Progress) tried told failed = TellsAllButLast tried told failed
