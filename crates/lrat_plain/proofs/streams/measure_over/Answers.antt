-- Over the formula of the instance.
use Rattle.std.proofs.Common.{◌∙◌, ap, length}
use Rattle.std.proofs.lemmas.Result.{IfOk-weaker}
use Rattle.cnf.specs.Formula.{Cnf}
use Rattle.lrat_plain.specs.Runs.{FaultWithin, IsFirstFault}
use Rattle.lrat_plain.specs.declared.faults.PlainFault.{PlainFault}
use Rattle.lrat_plain.proofs.Texts.{if_err_weaker}
use Rattle.lrat_plain.proofs.Wholes.{fault_first, start_last}
use Rattle.lrat_plain.proofs.streams.measure_over.Goals as goal

pub begin-requires-clause-given : goal.begin-requires-clause-given
begin-requires-clause-given g c =
    c.in_ok-given.ensures.given ∙ ap (λ (f : Cnf). length f.clauses) c.requires
    ∙ start_last c.args.claim.instance.now

pub returns-clause-sizes : goal.returns-clause-sizes
returns-clause-sizes g c =
    let p = c.args.claim.instance.now in
    IfOk-weaker c.measure-sizes.result _ _
    (λ s h. h c.args.claim.cost p c.in_ok-given.given _ c.in_ok-run.ensures.begun)
    c.measure-sizes.ensures.sizes

pub returns-clause-fault : goal.returns-clause-fault
returns-clause-fault g c =
    let p = c.args.claim.instance.now in
    let had = g.R.Read.remaining c.args.proof.now in
    let left = g.R.Read.remaining c.measure-sizes.new.proof in
    let b = c.in_ok-run.ensures.begun in
    if_err_weaker
    (FaultWithin (c.in_ok-run.run'.steps).machine c.in_ok-run.run'.rest had left)
    (IsFirstFault c.args.claim.cost p had left) c.measure-sizes.result
    (λ (f : PlainFault) k. fault_first c.args.claim.cost p _ _ _ _ f b.machine b.rest k)
    c.measure-sizes.ensures.fault
