-- Over the formula of the instance.
use Rattle.std.proofs.Common.{◌∙◌, ap, length, sym, subst}
use Rattle.cnf.specs.Formula.{Cnf}
use Rattle.lrat_plain.specs.Names.{Names}
use Rattle.lrat_plain.specs.Runs.{FaultWithin, IsBegun, IsFirstFault}
use Rattle.lrat_plain.specs.declared.faults.PlainFault.{PlainFault}
use Rattle.lrat_plain.proofs.Texts.{if_err_weaker, ok_weaker}
use Rattle.lrat_plain.proofs.Wholes.{fault_first, start_last}
use Rattle.lrat_plain.proofs.streams.write_over.Goals as goal

pub begin-requires-clause-given : goal.begin-requires-clause-given
begin-requires-clause-given g c =
    c.in_ok-given.ensures.given ∙ ap (λ (f : Cnf). length f.clauses) c.requires
    ∙ start_last c.args.claim.instance.now

pub returns-clause-written : goal.returns-clause-written
returns-clause-written g c =
    let p = c.args.claim.instance.now in
    let cost = c.args.claim.cost in
    let b = c.in_ok-run.ensures.begun in
    let begun = subst (λ n. IsBegun cost p c.in_ok-given.given n c.in_ok-run.run')
    (sym (ap (λ (n : Names). n.all) b.names)) b in
    ok_weaker _ _ c.write-written.result c.write-written.ensures.written
    (λ h. h cost p c.in_ok-given.given begun c.requires c.in_ok-given.ensures.given)

pub returns-clause-fault : goal.returns-clause-fault
returns-clause-fault g c =
    let p = c.args.claim.instance.now in
    let had = g.R.Read.remaining c.args.proof.now in
    let left = g.R.Read.remaining c.write-written.new.proof in
    let b = c.in_ok-run.ensures.begun in
    if_err_weaker
    (FaultWithin (c.in_ok-run.run'.steps).machine c.in_ok-run.run'.rest had left)
    (IsFirstFault c.args.claim.cost p had left) c.write-written.result
    (λ (f : PlainFault) k. fault_first c.args.claim.cost p _ _ _ _ f b.machine b.rest k)
    c.write-written.ensures.fault
