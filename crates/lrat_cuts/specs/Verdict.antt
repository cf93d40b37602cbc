-- The verdict on a certificate of forms and cuts, and the lower bound that it proves.
use Rattle.std.specs.Prelude.{ℕ, List, [], ◌∷◌, Option, None, Result, Ok, Err, ◌==◌}
use Rattle.std.specs.Prelude.{if◌then◌else◌}
use Rattle.cnf.specs.Problem.{Problem}
use Rattle.text.specs.Text.{token_lines}
use Rattle.lrat_machine.specs.declared.verdicts.Cause.{Cause}
use Rattle.lrat_machine.specs.declared.verdicts.Cause.TheVariants.{NoEmptyClause}
use Rattle.lrat_machine.specs.declared.verdicts.Verdict.{Verdict}
use Rattle.lrat_machine.specs.declared.verdicts.Verdict.TheVariants.{Yes, No}
use Rattle.lrat_cuts.specs.Cuts.{CutsState, cuts_start, judged_lines}
use Rattle.lrat_cuts.specs.declared.verdicts.LowerVerdict.{LowerVerdict}
use Rattle.lrat_cuts.specs.declared.verdicts.LowerVerdict.TheVariants.{AtLeast}
use Rattle.lrat_cuts.specs.declared.verdicts.LowerVerdict.TheVariants.{No as NotRight}

-- what the lines of a text leave over an instance, or the first fault and its line. Cuts have to
-- hold for a cost, if there is one
abbrev pub judged_text : Option ℕ → Problem → List ℕ → Result CutsState (Cause × ℕ)
judged_text cost p bytes = judged_lines cost (cuts_start p) 1 (token_lines bytes)

abbrev pub verdict_of : Result CutsState (Cause × ℕ) → Verdict
verdict_of (Ok s) = if s.ended then Yes else No NoEmptyClause 0
verdict_of (Err e) = No e.0 e.1

-- all lines are right, and the last one adds the empty clause
abbrev pub cuts_verdict : Option ℕ → Problem → List ℕ → Verdict
cuts_verdict cost p bytes = verdict_of (judged_text cost p bytes)

-- the text up to its last line feed
abbrev pub ended_with : ℕ → List ℕ → List ℕ
ended_with b [] = if b == 10 then b ∷ [] else []
ended_with b (c ∷ cs) = b ∷ c ∷ cs

abbrev pub ended_part : List ℕ → List ℕ
ended_part [] = []
ended_part (b ∷ bs) = ended_with b (ended_part bs)

abbrev pub lower_of : Result CutsState (Cause × ℕ) → LowerVerdict
lower_of (Ok s) = AtLeast s.proved
lower_of (Err e) = NotRight e.0 e.1

-- the lower bound that is proved by the lines which a line feed ends
abbrev pub cuts_lower : Problem → List ℕ → LowerVerdict
cuts_lower p bytes = lower_of (judged_text None p (ended_part bytes))
