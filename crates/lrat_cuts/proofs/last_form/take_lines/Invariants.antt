-- What the lines that are left come to is what all do.
use Rattle.std.proofs.Common.{◌≡◌, ◌+◌, ◌≤◌, length}
use Rattle.lrat_cuts.specs.LastForm.{ended_lines, form_facts}
use Rattle.lrat_cuts.specs.Machine.{judged_after}
use Rattle.lrat_cuts.proofs.last_form.take_lines.Given as goal

abbrev pub invariant-loop-line : goal.invariant-loop-line
invariant-loop-line l = record {
  judged : judged_after l.machine (ended_lines l.left)
      ≡ judged_after l.initial.machine (ended_lines l.proof);
  facts : form_facts l.facts.items (ended_lines l.left)
      ≡ form_facts l.initial.facts.items (ended_lines l.proof);
  room : (l.machine).lines + length l.left ≤ (l.initial.machine).lines + length l.proof;
}

abbrev pub decreases-loop-line : goal.decreases-loop-line
decreases-loop-line l = length l.left
