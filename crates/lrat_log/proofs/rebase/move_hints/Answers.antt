-- One more hint was moved.
use Rattle.std.proofs.Common.{◌≡◌, ◌<◌, ◌^◌, sym, ◌∙◌, ap, subst, arith}
use Rattle.std.proofs.lemmas.Option.{get_or_from_slice_get}
use Rattle.std.proofs.lemmas.Result.{IfOk-from_err}
use Rattle.lrat_log.specs.declared.lines.Hint.{Hint}
use Rattle.lrat_log.specs.declared.lines.Hint.TheVariants.{Plain, Group}
use Rattle.lrat_log.specs.Log.{id_of, name_of}
use Rattle.lrat_log.specs.Rebase.{moved_hint}
use Rattle.lrat_log.proofs.RebasedLines.{take_mapped_at}
use Rattle.lrat_log.proofs.rebase.move_hints.Goals as goal
use Rattle.lrat_log.proofs.rebase.move_hints.Goals.{in-Plain, in-Group}

pub loop-index-preserved : goal.loop-index-preserved
loop-index-preserved c =
    let e : c.match-get.hint ≡ moved_hint c.args.fixed c.args.count c.get.result =
    elim c.match-get.branch [
      | in-Plain w ↦ w.hint-is ∙ ap Plain w.move_name.ensures
          ∙ sym (ap (moved_hint c.args.fixed c.args.count) w.in-Plain.is)
      | in-Group w ↦ w.hint-is ∙ ap Group w.move_name-in-Group.ensures
          ∙ sym (ap (moved_hint c.args.fixed c.args.count) w.in-Group.is)
    ] in
    let t =
    take_mapped_at (moved_hint c.args.fixed c.args.count) c.args.hints.now c.loop-index.index
    c.get.result c.get.ensures in
    cc (c.in_ok-push.ensures.items, c.loop-index.invariant, e, t)

pub returns-in_err-push : goal.returns-in_err-push
returns-in_err-push c = IfOk-from_err c.from_residual.result _ c.from_residual.ensures.0

pub move_name-requires-clause-id : goal.move_name-requires-clause-id
move_name-requires-clause-id c =
    subst (λ (h : Hint). id_of c.args.count (name_of h) < 2 ^ 62)
    (get_or_from_slice_get c.args.hints.now c.loop-index.index c.get.result c.get.result
    c.get.ensures ∙ c.in-Plain.is)
    (c.requires.ids c.loop-index.index c.get.result (omega arith))

pub move_name-requires-in-Group-clause-id : goal.move_name-requires-in-Group-clause-id
move_name-requires-in-Group-clause-id c =
    subst (λ (h : Hint). id_of c.args.count (name_of h) < 2 ^ 62)
    (get_or_from_slice_get c.args.hints.now c.loop-index.index c.get.result c.get.result
    c.get.ensures ∙ c.in-Group.is)
    (c.requires.ids c.loop-index.index c.get.result (omega arith))
