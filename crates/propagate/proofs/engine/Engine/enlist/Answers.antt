use Rattle.std.proofs.Common.{refl, subst}
use Rattle.std.proofs.lemmas.Result.{IfOk-from_err}
use Rattle.propagate_watches.specs.Table.{IsWatching, grown_table}
use Rattle.propagate_watches.specs.declared.table.Attachment.TheVariants.{Waiting}
use Rattle.propagate.specs.Watches.{engine_state}
use Rattle.propagate.proofs.Attaching.{engine_set, engine_change, attachment_grown, length-grown}
use Rattle.propagate.proofs.engine.Engine.enlist.Goals as goal

pub invariant_of-self-2 : goal.invariant_of-self-2
invariant_of-self-2 c =
    let i = c.self.inside in
    let e = engine_state i.trail i.table i.pool i.waiting.items i.stable_qhead i.qhead i.failed in
    let g = grown_table i.table c.args.reference in
    let e' = engine_state i.trail g i.pool i.waiting.items i.stable_qhead i.qhead i.failed in
    let inv' =
    engine_change e g i.pool i.waiting.items c.self.invariant refl
    (λ r one other at. c.self.invariant.watching r one other
    (subst (λ x. IsWatching x one other) (attachment_grown i.table c.args.reference r) at)) in
    rw (c.set.ensures, c.index.ensures, c.in_ok-make_room.ensures.ok)
    (engine_set e' c.args.reference Waiting i.pool c.push.new.self.items inv' refl
    (length-grown i.table c.args.reference) (λ one other at. absurd (cc)))

pub returns-in_err-make_room-clause-ok : goal.returns-in_err-make_room-clause-ok
returns-in_err-make_room-clause-ok c =
    IfOk-from_err c.from_residual.result _ c.from_residual.ensures.0
