-- What is left of the text, read on from the stage, gives its report.
use Rattle.lrat_result.specs.Report.{ReportsWith}
use Rattle.lrat_result.proofs.result.read_report.Given as goal

abbrev pub invariant-loop-number : goal.invariant-loop-number
invariant-loop-number l =
    (goal.iterator-loop-number).can_next l.number-iterator
    × (goal.iterator-loop-number).is_finite l.number-iterator
    × ReportsWith l.text l.stage l.number-iterator
