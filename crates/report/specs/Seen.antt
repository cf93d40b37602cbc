-- What was shown to the watch of a run, beside what was written.
use Rattle.std.specs.Prelude.{◌≡◌, ℕ, Bool, List, [], ◌∷◌, ◌++◌, map, All, Option, IfSome}
use Rattle.std.specs.Io.KnownBytes.{Appends}
use Rattle.cnf.specs.Problem.{Problem}
use Rattle.wcnf.specs.Wcnf.{Reads}
use Rattle.adder.specs.declared.profiles.Profile.{Profile}
use Rattle.cdcl_order.specs.Watch.{Sight, with_seen}
use Rattle.improve_found.specs.declared.found.Found.{Found}
use Rattle.improve_found.specs.Solutions.{IsSolution}
use Rattle.improve.specs.Improving.{IsRightFound}
use Rattle.improve_found.specs.Watch.{better_of, costs_shown}
use Rattle.report_text.specs.declared.status.Status.{Status}
use Rattle.report_text.specs.Told.{cost_lines}
use Rattle.report_text.specs.Answering.{status_of, result_text}
use Rattle.report.specs.Running.{told_in}
use Rattle.report_text.specs.Best.{said_of, end_of}

-- Before this was found just these solutions were shown, each once, in their order. The writer has
-- their costs.
pub record IsShownFor (profile : Profile) (p : Problem) (found : Found)
    (out out' : Option (List ℕ)) (before after : Option (List Sight)) : Type 0 where
  pub solutions : List (ℕ × List Bool)
  pub each : All (λ s. IsSolution p s.1 s.0) solutions
  pub seen : after ≡ with_seen (map (better_of p) solutions) before
  pub lines : Appends out out' (cost_lines (costs_shown solutions))
  pub right : IsRightFound profile p (costs_shown solutions) found

-- In a run that ended so, just the solutions were shown whose costs the result tells, each once, in
-- their order, and then the end once, as the result says it.
pub record IsSeenAs (profile : Profile) (text out out' : Option (List ℕ)) (status : Status)
    (before after : Option (List Sight)) : Type 0 where
  -- the text reads as this instance
  pub problem : Problem
  pub reads : IfSome text (λ bytes. Reads bytes problem)
  pub solutions : List (ℕ × List Bool)
  pub each : All (λ s. IsSolution problem s.1 s.0) solutions
  pub found : Found
  pub right : IsRightFound profile problem (costs_shown solutions) found
  pub status_is : status ≡ status_of found
  pub seen : after ≡ with_seen
      (map (better_of problem) solutions ++ end_of problem (said_of found) ∷ []) before
  -- what was written is this result
  pub earlier : List ℕ
  pub told : told_in earlier (said_of found) ≡ costs_shown solutions
  pub out_grows : Appends out out' (result_text earlier (said_of found))
