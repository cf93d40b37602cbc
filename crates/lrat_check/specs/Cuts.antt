-- The verdict on a text with its result and a certificate of forms and cuts.
use Rattle.std.specs.Prelude.{◌≡◌, ℕ, List, Option, Some, IfSome}
use Rattle.std.specs.Io.KnownBytes.{Consumes}
use Rattle.cnf.specs.Problem.{Problem}
use Rattle.cnf.specs.declared.limits.TheConstants.{NUMBER_LIMIT}
use Rattle.lrat_result.specs.Result.{Report}
use Rattle.lrat_machine.specs.declared.verdicts.Verdict.{Verdict}
use Rattle.lrat_machine.specs.declared.verdicts.Verdict.TheVariants.{Yes}
use Rattle.lrat_cuts.specs.Verdict.{cuts_verdict}
use Rattle.lrat_check.specs.Checks.{CostsAtLeast}
use Rattle.lrat_check.specs.Verdict.{verdict_read, verdict_said}
use Rattle.lrat_check.specs.declared.cuts.CutsLeft.{CutsLeft}
use Rattle.lrat_check.specs.declared.cuts.CutsLeft.TheVariants.{Nothing, Bound, NoSolution}

-- cuts have to hold for the cost that was told. Where there is no solution that is 2^62, which no
-- solution costs
abbrev pub said_cuts_verdict : Problem → Report → List ℕ → Verdict
said_cuts_verdict p r proof =
    verdict_said p r (λ cost. cuts_verdict (Some cost) p proof)
    (cuts_verdict (Some NUMBER_LIMIT) p proof)

abbrev pub verdict_by_cuts : List ℕ → List ℕ → List ℕ → Verdict
verdict_by_cuts text result proof =
    verdict_read text result (λ p r. said_cuts_verdict p r proof)

-- the verdict with this certificate, from what is left to check
abbrev pub cuts_verdict_left : Problem → CutsLeft → List ℕ → Verdict
cuts_verdict_left p (Nothing v) proof = v
cuts_verdict_left p (Bound c) proof = cuts_verdict (Some c.cost) p proof
cuts_verdict_left p NoSolution proof = cuts_verdict (Some NUMBER_LIMIT) p proof

-- a yes shows it, or that nothing costs less
abbrev pub ShowsByCuts : Problem → CutsLeft → Type 0 → Type 0
ShowsByCuts p (Nothing v) P = v ≡ Yes → P
ShowsByCuts p (Bound c) P = CostsAtLeast p c.cost → P
ShowsByCuts p NoSolution P = CostsAtLeast p NUMBER_LIMIT → P

-- the verdict is that on some bytes that a reader gave, and on all of its bytes, where they are
-- known
pub record IsJudgedByCuts (old new : Option (List ℕ)) (cost : Option ℕ) (p : Problem)
    (v : Verdict) : Type 0 where
  pub bytes : List ℕ
  pub read : Consumes old new bytes
  pub verdict : v ≡ cuts_verdict cost p bytes
  pub all : IfSome old (λ all. v ≡ cuts_verdict cost p all)
