use Rattle.std.proofs.Common.{◌≡◌, false, refl, rules}
use Rattle.std.proofs.lemmas.Result.{IfOk-from_err}
use Rattle.cuts_solver.proofs.Working.{fails_same, takes_plain}
use Rattle.cuts_solver.proofs.solver.CutsSolver.take_plain.Goals as goal

pub invariant_of-self : goal.invariant_of-self
invariant_of-self g c =
    let e = c.in_err-is_taken.ensures in
    fails_same _ _ c.self.invariant e.same e.err refl refl refl

pub invariant_of-self-2 : goal.invariant_of-self-2
invariant_of-self-2 g c =
    let works : c.self.inside.failed ≡ false = search rules in
    let going : c.self.inside.refuted ≡ false = search rules in
    let e = c.in_ok-is_taken.ensures in
    takes_plain _ _ c.in_ok-is_taken.is_taken c.self.invariant works going e.same e.taken e.refused

pub returns-in_err-is_taken-clause-taken : goal.returns-in_err-is_taken-clause-taken
returns-in_err-is_taken-clause-taken g c =
    IfOk-from_err c.from_residual-in_err-is_taken.result _ c.from_residual-in_err-is_taken.ensures.0

pub returns-in_err-is_taken-clause-refused : goal.returns-in_err-is_taken-clause-refused
returns-in_err-is_taken-clause-refused g c =
    IfOk-from_err c.from_residual-in_err-is_taken.result _ c.from_residual-in_err-is_taken.ensures.0
