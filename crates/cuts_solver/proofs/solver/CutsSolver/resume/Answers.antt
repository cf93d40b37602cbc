-- The search goes on where the log does.
use Rattle.std.proofs.Common.{refl, rules, subst}
use Rattle.std.specs.Prelude.{IfSome}
use Rattle.cnf.specs.Instance.{IsInstance}
use Rattle.cuts_log.specs.Logs.{HasResumed}
use Rattle.cuts_solver.specs.Solving.{StartsBehind}
use Rattle.cuts_solver.proofs.Working.{resumed}
use Rattle.cuts_solver.proofs.solver.CutsSolver.resume.Goals as goal

pub invariant_of-result : goal.invariant_of-result
invariant_of-result g c =
    let p = c.args.instance.now in
    let t = c.args.machine.state in
    let origin = g.W.Write.contents c.args.writer in
    let fine : IsInstance p = search rules in
    let h = subst (λ o. IfSome o (HasResumed p t origin)) c.in-Ok-Some.field-0-is
    c.in-Ok-Some.ensures.resumed in
    let b = subst (λ o. IfSome o (λ x. StartsBehind p t x.0 x.1)) c.in-Ok-Some-begun.field-0-is
    c.in-Ok-Some-begun.ensures.begun in
    resumed _ p t origin h fine b.input b.given b.variables b.runs refl
