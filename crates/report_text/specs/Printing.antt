-- The lines that the program prints.
use Rattle.std.specs.Prelude.{ℕ, ◌-◌, List, ◌++◌}
use Rattle.std.specs.Fmt.{decimal}
use lib.Chars.{codes}
use Rattle.lrat_check.specs.declared.verdicts.Cause.{Cause}
use Rattle.lrat_check.specs.declared.verdicts.Cause.TheVariants.{Text, ResultForm, BitsLength}
use Rattle.lrat_check.specs.declared.verdicts.Cause.TheVariants.{NotFeasible, CostWrong}
use Rattle.lrat_check.specs.declared.verdicts.Cause.TheVariants.{StatusWithoutProof, LineForm}
use Rattle.lrat_check.specs.declared.verdicts.Cause.TheVariants.{IdOrder, DeadId, HintNotUnit}
use Rattle.lrat_check.specs.declared.verdicts.Cause.TheVariants.{HintAfterConflict, NoConflict}
use Rattle.lrat_check.specs.declared.verdicts.Cause.TheVariants.{Candidates, NoEmptyClause}
use Rattle.lrat_check.specs.declared.verdicts.Cause.TheVariants.{TrailingLine, ClauseForm}
use Rattle.lrat_check.specs.declared.verdicts.Cause.TheVariants.{LineName, LineLimit, CutWorth}
use Rattle.lrat_check.specs.declared.lower.LowerVerdict.{LowerVerdict}
use Rattle.lrat_check.specs.declared.lower.LowerVerdict.TheVariants.{AtLeast, NoSolution}
use Rattle.lrat_check.specs.declared.lower.LowerVerdict.TheVariants.{No as NotShown}
use Rattle.lrat_check.specs.declared.verdicts.Verdict.{Verdict}
use Rattle.lrat_check.specs.declared.verdicts.Verdict.TheVariants.{Yes, No}

-- a cause is called as it is spelled here
abbrev pub cause_name : Cause → List ℕ
cause_name Text = codes "Text"
cause_name ResultForm = codes "ResultForm"
cause_name BitsLength = codes "BitsLength"
cause_name NotFeasible = codes "NotFeasible"
cause_name CostWrong = codes "CostWrong"
cause_name StatusWithoutProof = codes "StatusWithoutProof"
cause_name LineForm = codes "LineForm"
cause_name IdOrder = codes "IdOrder"
cause_name DeadId = codes "DeadId"
cause_name HintNotUnit = codes "HintNotUnit"
cause_name HintAfterConflict = codes "HintAfterConflict"
cause_name NoConflict = codes "NoConflict"
cause_name Candidates = codes "Candidates"
cause_name NoEmptyClause = codes "NoEmptyClause"
cause_name TrailingLine = codes "TrailingLine"
cause_name ClauseForm = codes "ClauseForm"
cause_name LineName = codes "LineName"
cause_name LineLimit = codes "LineLimit"
cause_name CutWorth = codes "CutWorth"

abbrev pub no_text : Cause → List ℕ
no_text cause = codes "NO " ++ cause_name cause ++ codes " "

-- the line of a verdict
abbrev pub verdict_text : Verdict → List ℕ
verdict_text Yes = codes "YES\n"
verdict_text (No cause line) = no_text cause ++ (decimal line ++ codes "\n")

-- the line on what a certificate proves by itself
abbrev pub lower_text : LowerVerdict → List ℕ
lower_text (AtLeast lower) = codes "at least " ++ (decimal lower ++ codes "\n")
lower_text NoSolution = codes "no solution\n"
lower_text (NotShown cause line) = no_text cause ++ (decimal line ++ codes "\n")

-- by how much a solution costs more than what is needed at least
abbrev pub gap_text : ℕ → ℕ → List ℕ
gap_text cost lower = codes "gap " ++ (decimal (cost - lower) ++ codes "\n")
