-- Nothing costs less than nothing, and the certificate is right for that.
use Rattle.std.proofs.Common.{Ok, Err, subst}
use Rattle.std.specs.Prelude.{IfErr, IfSome, Result}
use Rattle.report.specs.Earlier.{IsDearer}
use Rattle.report.proofs.CutsTexts.{zero_up_to}
use Rattle.report.proofs.Dearer.{start_dearer}
use Rattle.report.proofs.solving.Run.tell_free_by_cuts.Goals as goal

pub run_at_once-requires : goal.run_at_once-requires
run_at_once-requires g c =
    (0, c.in_ok-start.ensures.ends c.args.instance.now c.first_solution.ensures.solution)

pub returns-clause-ok : goal.returns-clause-ok
returns-clause-ok g c text r front right =
    let p = c.args.instance.now in
    c.run_at_once.ensures.ok 0 (c.in_ok-start.ensures.ends p c.first_solution.ensures.solution)
    text r front (zero_up_to p front right)

pub returns-clause-fault : goal.returns-clause-fault
returns-clause-fault g c text r front right =
    let p = c.args.instance.now in
    c.run_at_once.ensures.fault 0 (c.in_ok-start.ensures.ends p c.first_solution.ensures.solution)
    text r front (zero_up_to p front right)

pub returns-clause-seen : goal.returns-clause-seen
returns-clause-seen g c text r =
    c.run_at_once.ensures.seen 0
    (c.in_ok-start.ensures.ends c.args.instance.now c.first_solution.ensures.solution) text r

err_with : {T E : Type 0} (r : Result T E) (P : Type 0) → P → IfErr r (λ _. P)
err_with (Ok x) P h = tt
err_with (Err e) P h = h

pub returns-in_err-start-clause-dear : goal.returns-in_err-start-clause-dear
returns-in_err-start-clause-dear g c =
    let p = c.args.instance.now in
    err_with c.from_residual.result _
    (subst (λ o. IfSome o (λ bits. IsDearer p 0 bits.items)) c.take.ensures.value
    (start_dearer p 0 c.take.result c.first_solution.result (λ v. v.items)
    c.first_solution.ensures.cost c.in_err-start.ensures.dear))
