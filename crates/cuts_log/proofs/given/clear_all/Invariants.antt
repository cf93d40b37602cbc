-- The names that are left come to what all of them do.
use Rattle.std.proofs.Common.{◌≡◌, drop}
use Rattle.cuts_log.specs.Given.{without_names}
use Rattle.cuts_log.proofs.given.clear_all.Given as goal

abbrev pub invariant-loop-hint : goal.invariant-loop-hint
invariant-loop-hint l =
    without_names (drop l.hint-index l.hints) l.live ≡ without_names l.hints l.initial.live
