-- What stands in the file of `--best`, judged for the instance, and what replaces it.
use Rattle.std.specs.Prelude.{◌≡◌, ℕ, Bool, true, false, List, Option, Some, None, nat_lt, ◌⊎◌}
use Rattle.std.specs.Prelude.{Err}
use Rattle.cnf.specs.Problem.{Problem}
use Rattle.lrat_result.specs.Result.{Said, OptimumFound, Unsatisfiable, Satisfiable, Unknown}
use Rattle.lrat_result.specs.Result.{report_of}
use Rattle.explain.specs.Judging.{JudgesAnswer}
use Rattle.explain.specs.declared.judging.Judgement.{Judgement}
use Rattle.explain.specs.declared.judging.Judgement.TheVariants.{Wrong}

-- it is no result
abbrev pub IsNoResult : List ℕ → Type 0
IsNoResult left = (line : ℕ) × (report_of left ≡ Err line)

-- a result is judged as any is; what is none is wrong
abbrev pub IsLeft : Problem → List ℕ → Judgement → Type 0
IsLeft p left judgement =
    JudgesAnswer p left judgement ⊎ (IsNoResult left × (judgement ≡ Wrong))

-- whether this cost is less than that of the solution which stands there, if there is one
abbrev pub undercuts : ℕ → Option ℕ → Bool
undercuts cost None = true
undercuts cost (Some least) = nat_lt cost least

-- it stays, or this cheaper one takes its place
abbrev pub IsImproved : Option ℕ → Option ℕ → ℕ → Type 0
IsImproved old new cost = (new ≡ old) ⊎ ((undercuts cost old ≡ true) × (new ≡ Some cost))

-- whether the end of a search says more than what stands there: a proof, or a cheaper solution
abbrev pub is_better : Said → Option ℕ → Bool
is_better (OptimumFound c bits) least = true
is_better Unsatisfiable least = true
is_better (Satisfiable c bits) least = undercuts c least
is_better Unknown least = false
