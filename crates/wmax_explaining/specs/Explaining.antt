-- What is printed of a certificate beside a result.
use Rattle.std.specs.Prelude.{ℕ, List, [], ◌++◌}
use Rattle.lrat_check.specs.declared.lower.LowerVerdict.{LowerVerdict}
use Rattle.lrat_check.specs.declared.lower.LowerVerdict.TheVariants.{AtLeast, NoSolution, No}
use Rattle.explain.specs.declared.judging.Judgement.{Judgement}
use Rattle.explain.specs.declared.judging.Judgement.TheVariants.{Right, Wrong, Unsatisfiable}
use Rattle.explain.specs.declared.judging.Judgement.TheVariants.{Unknown}
use Rattle.report_text.specs.Printing.{gap_text, lower_text}

-- the gap, where there are both a lower bound and a solution
abbrev pub gap_between : LowerVerdict → Judgement → List ℕ
gap_between (AtLeast lower) (Right cost) = gap_text cost lower
gap_between (AtLeast lower) Wrong = []
gap_between (AtLeast lower) Unsatisfiable = []
gap_between (AtLeast lower) Unknown = []
gap_between NoSolution judgement = []
gap_between (No cause line) judgement = []

abbrev pub bound_text : LowerVerdict → Judgement → List ℕ
bound_text verdict judgement = lower_text verdict ++ gap_between verdict judgement
