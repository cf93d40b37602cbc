-- The cause and its line, as of any verdict.
use Rattle.report_text.proofs.printing.print_lower.Goals as goal

pub returns-in-No : goal.returns-in-No
returns-in-No g c =
    rw c.in-No.is (rw c.spell_no.ensures at c.print_numbered-in-No.ensures)
