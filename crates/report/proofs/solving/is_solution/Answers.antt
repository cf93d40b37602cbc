-- Where the bits are a solution, all hard clauses hold in their own assignment.
use Rattle.std.proofs.Common.{sym, ◌∙◌}
use Rattle.std.proofs.lemmas.Bool.{false≢true}
use Rattle.cnf.specs.Bits.{assignment_of}
use Rattle.cnf.proofs.Laws.{extends_own}
use Rattle.report.proofs.solving.is_solution.Goals as goal

pub returns-then-bits-vars-clause-no : goal.returns-then-bits-vars-clause-no
returns-then-bits-vars-clause-no c = λ refused cost s.
    let t = assignment_of c.args.bits.now in
    let own = extends_own c.args.bits.now in
    false≢true (sym refused ∙ (c.feasible.ensures t own).1 (s.1 t own).0)
