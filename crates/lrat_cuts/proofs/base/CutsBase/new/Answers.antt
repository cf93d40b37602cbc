-- The clauses of the formula are put one after the other.
use Rattle.lrat_cuts.proofs.Putting.{starts}
use Rattle.lrat_cuts.proofs.base.CutsBase.new.Goals as goal

pub returns-in-Ok : goal.returns-in-Ok
returns-in-Ok c =
    starts c.args.instance.now c.in_ok-formula.formula c.in-Ok.clauses c.in_ok-forms.forms
    c.in_ok-formula.ensures c.in-Ok.ensures.state c.in_ok-forms.ensures
