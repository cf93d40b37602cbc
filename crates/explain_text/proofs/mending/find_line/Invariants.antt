-- Of the lines that are left, the wanted one is that of the text.
use Rattle.std.proofs.Common.{◌≡◌, length}
use Rattle.explain_text.specs.Mending.{line_in, line_of}
use Rattle.explain_text.proofs.mending.find_line.Given as goal

abbrev pub invariant-loop-numbered : goal.invariant-loop-numbered
invariant-loop-numbered l = line_in l.rest l.number ≡ line_of l.text l.number

abbrev pub decreases-loop-numbered : goal.decreases-loop-numbered
decreases-loop-numbered l = length l.rest
