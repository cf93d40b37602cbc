-- What a certificate that an earlier run has left is judged as.
use Rattle.std.specs.Prelude.{◌≡◌, ℕ, List, Option, None, IfSome, Err}
use Rattle.cnf.specs.Problem.{Problem}
use Rattle.lrat_cuts.specs.Verdict.{ended_part, judged_text}
use Rattle.cuts_log.specs.Judging.{IsEarlier}
use Rattle.cuts_log.specs.Starts.{IsReached}
use Rattle.cuts_earlier.specs.declared.earlier.Judged.{Judged}
use Rattle.cuts_earlier.specs.declared.earlier.Judged.TheVariants.{Right, Wrong}

-- what a certificate was judged as that a reader gave, up to its last line feed: what its lines
-- leave, or the first fault and its line
abbrev pub IsJudgedAs : Problem → Option (List ℕ) → Judged → Type 0
IsJudgedAs p known (Right e) = IsReached p (e.machine).state
    × IfSome known (λ bytes. IsEarlier p (e.machine).state (ended_part bytes))
IsJudgedAs p known (Wrong cause line) =
    IfSome known (λ bytes. judged_text None p (ended_part bytes) ≡ Err (cause, line))
