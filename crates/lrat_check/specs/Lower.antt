-- What a certificate of forms and cuts proves by itself: a lower bound of the cost, or that there
-- is no solution.
use Rattle.std.specs.Prelude.{◌≡◌, ℕ, List, ⊤, Option, IfSome, Result, Ok, Err, nat_le}
use Rattle.std.specs.Prelude.{if◌then◌else◌}
use Rattle.std.specs.Io.KnownBytes.{Consumes}
use Rattle.cnf.specs.Problem.{Problem, IsInconsistent}
use Rattle.cnf.specs.declared.limits.TheConstants.{NUMBER_LIMIT}
use Rattle.wcnf.specs.declared.faults.FaultKind.{FaultKind}
use Rattle.wcnf.specs.Reading.{reading_of}
use Rattle.wcnf.specs.Wcnf.{Reads}
use Rattle.lrat_machine.specs.declared.verdicts.Cause.TheVariants.{Text}
use Rattle.lrat_cuts.specs.Verdict.{cuts_lower}
use Rattle.lrat_cuts.specs.declared.verdicts.LowerVerdict.{LowerVerdict as CutsLower}
use Rattle.lrat_cuts.specs.declared.verdicts.LowerVerdict.TheVariants.{AtLeast as Proves}
use Rattle.lrat_cuts.specs.declared.verdicts.LowerVerdict.TheVariants.{No as NotRight}
use Rattle.lrat_check.specs.Checks.{CostsAtLeast}
use Rattle.lrat_check.specs.declared.lower.LowerVerdict.{LowerVerdict}
use Rattle.lrat_check.specs.declared.lower.LowerVerdict.TheVariants.{AtLeast, NoSolution}
use Rattle.lrat_check.specs.declared.lower.LowerVerdict.TheVariants.{No as NotShown}

-- a bound of 2^62, which no solution costs, says that there is none
abbrev pub shown_by_cuts : CutsLower → LowerVerdict
shown_by_cuts (Proves lower) = if nat_le NUMBER_LIMIT lower then NoSolution else AtLeast lower
shown_by_cuts (NotRight cause line) = NotShown cause line

-- the verdict on a text with a certificate, of which the lines count that a line feed ends
abbrev pub lower_by_cuts : List ℕ → List ℕ → LowerVerdict
lower_by_cuts text proof = read (reading_of text)
  where
    read : Result Problem (FaultKind × ℕ) → LowerVerdict
    read (Err e) = NotShown Text e.1
    read (Ok p) = shown_by_cuts (cuts_lower p proof)

-- what it implies, of whatever the text reads as
abbrev pub IsTrueLower : List ℕ → LowerVerdict → Type 0
IsTrueLower text (AtLeast lower) = (p : Problem) → Reads text p → CostsAtLeast p lower
IsTrueLower text NoSolution = (p : Problem) → Reads text p → IsInconsistent p
IsTrueLower text (NotShown cause line) = ⊤

-- the verdict is that on some bytes that a reader gave, and on all of its bytes, where they are
-- known
pub record IsLowerByCuts (old new : Option (List ℕ)) (p : Problem) (v : LowerVerdict) :
    Type 0 where
  pub bytes : List ℕ
  pub read : Consumes old new bytes
  pub verdict : v ≡ shown_by_cuts (cuts_lower p bytes)
  pub all : IfSome old (λ all. v ≡ shown_by_cuts (cuts_lower p all))
