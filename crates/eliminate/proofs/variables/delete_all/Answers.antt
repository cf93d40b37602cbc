-- One clause more is deleted.
use Rattle.std.proofs.Common.{◌∙◌, ap, sym, subst, List, refl, arith}
use Rattle.std.proofs.lemmas.Bool.{false≢true}
use Rattle.std.proofs.lemmas.List.{take_all}
use Rattle.clauses.specs.Slots.{Slots, StoreState}
use Rattle.lrat_log.specs.Log.{LogLine}
use Rattle.eliminate.specs.Variables.{KeepsLog, LeavesOut}
use Rattle.eliminate.proofs.Deleting.{leaves_all, keeps_start, keeps_log, next_deleted, next_dead}
use Rattle.clauses.proofs.Laws.{live_within}
use Rattle.lrat_log.proofs.Laws.{when_err}
use Rattle.eliminate.proofs.variables.delete_all.Goals as goal
use Rattle.eliminate.proofs.variables.delete_all.Goals.{then-is_live+in_ok-leave+in_ok-delete}
use Rattle.eliminate.proofs.variables.delete_all.Goals.{else-is_live}

pub loop-reference-init : goal.loop-reference-init
loop-reference-init g c = record { work = keeps_start _ _ _; counted = refl; left = leaves_all _ }

pub loop-reference-preserved : goal.loop-reference-preserved
loop-reference-preserved g c =
    let names = c.args.names.now.names in
    let refs = c.args.references.now in
    let slots : Slots = c.args.store.now.slots in
    let left : Slots = c.loop-reference.store.slots in
    let ls : List LogLine = g.S.Sink.lines c.args.sink.now in
    let more : List LogLine = g.S.Sink.lines c.loop-reference.sink in
    let r = c.reference-item.result in
    let i = c.loop-reference.reference-index in
    elim c.if-is_live.branch [
      | then-is_live+in_ok-leave+in_ok-delete w ↦
          let k =
          next_deleted names refs slots left c.if-is_live.store.slots ls more
          (g.S.Sink.lines c.if-is_live.sink) r i c.loop-reference-test.true c.reference-item.is
          c.loop-reference.invariant.work c.loop-reference.invariant.counted
          c.loop-reference.invariant.left
          (c.is_live.ensures.0 w.if-is_live.true) (ap (λ (x : StoreState). x.slots) w.store-is
          ∙ w.in_ok-delete.ensures.slots) (ap g.S.Sink.lines w.sink-is
          ∙ w.in_ok-delete.ensures.lines) in
          record { work = k.0; counted = k.2; left = k.1 }
      | else-is_live w ↦
          let k =
          next_dead names refs slots left c.if-is_live.store.slots ls more
          (g.S.Sink.lines c.if-is_live.sink) r i c.loop-reference-test.true c.reference-item.is
          c.loop-reference.invariant.work c.loop-reference.invariant.counted
          c.loop-reference.invariant.left
          (λ live. false≢true (sym w.if-is_live.false ∙ c.is_live.ensures.1 live))
          (ap (λ (x : StoreState). x.slots) w.store-is) (ap g.S.Sink.lines w.sink-is) in
          record { work = k.0; counted = k.2; left = k.1 }
    ]

pub returns-in_err-leave-clause-err : goal.returns-in_err-leave-clause-err
returns-in_err-leave-clause-err g c =
    let logs : KeepsLog c.args.names.now.names c.args.store.now.slots
    (g.S.Sink.lines c.args.sink.now) (g.S.Sink.lines c.loop-reference.sink) =
    keeps_log _ _ _ _ _ c.loop-reference.invariant.work in
    when_err _ logs

pub returns-in_err-delete-clause-err : goal.returns-in_err-delete-clause-err
returns-in_err-delete-clause-err g c =
    let before : KeepsLog c.args.names.now.names c.args.store.now.slots
    (g.S.Sink.lines c.args.sink.now) (g.S.Sink.lines c.loop-reference.sink) =
    keeps_log _ _ _ _ _ c.loop-reference.invariant.work in
    let logs : KeepsLog c.args.names.now.names c.args.store.now.slots
    (g.S.Sink.lines c.args.sink.now) (g.S.Sink.lines c.delete.new.sink) =
    subst (KeepsLog c.args.names.now.names c.args.store.now.slots (g.S.Sink.lines c.args.sink.now))
    (sym c.in_err-delete.ensures.err) before in
    when_err _ logs

pub delete-requires-clause-line : goal.delete-requires-clause-line
delete-requires-clause-line g c = c.requires.lines c.reference-item.result

pub delete-requires-clause-named : goal.delete-requires-clause-named
delete-requires-clause-named g c =
    let live = c.is_live.ensures.0 c.if-is_live.true in
    let inside =
    live_within c.loop-reference.store.slots c.reference-item.result live.0 live.1 in
    omega (arith, c.requires.named, c.loop-reference.invariant.left.long)

pub returns-clause-left : goal.returns-clause-left
returns-clause-left g c =
    subst (λ rs. LeavesOut rs c.args.store.now.slots c.loop-reference.store.slots)
    (take_all c.loop-reference.reference-index c.args.references.now c.loop-reference-test.false)
    c.loop-reference.invariant.left
