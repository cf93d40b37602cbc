use Rattle.std.proofs.Common.{◌≡◌, true, sym, ◌∙◌, rules, refl}
use Rattle.lrat_log.proofs.Laws.{when_err}
use Rattle.lrat_read.specs.Words.{CountLine}
use Rattle.cuts_log.specs.Events.{Word}
use Rattle.cuts_log.proofs.Keeping.{brings, kept_next, lost, same_next}
use Rattle.cuts_log.proofs.log.CutsLog.count.Goals as goal

pub invariant_of-self-in_err-note : goal.invariant_of-self-in_err-note
invariant_of-self-in_err-note g c =
    let works = sym c.has_failed.ensures.failed ∙ c.if-has_failed.false in
    let yes : c.in-Ok.is_taken ≡ true = search rules in
    let f = c.in_err-note.ensures.err in
    kept_next _ (Word (CountLine c.args.outputs c.args.inputs.now) c.count.new.made)
    c.count.new.self c.note.new.self
    c.self.invariant works (c.in-Ok.ensures.taken yes c.self.inside.cost) f.seen f.base

pub invariant_of-self-2 : goal.invariant_of-self-2
invariant_of-self-2 g c =
    let works = sym c.has_failed.ensures.failed ∙ c.if-has_failed.false in
    let yes : c.in-Ok.is_taken ≡ true = search rules in
    let n = c.in_ok-note.ensures.ok in
    kept_next _ (Word (CountLine c.args.outputs c.args.inputs.now) c.count.new.made)
    c.count.new.self c.note.new.self
    c.self.invariant works (c.in-Ok.ensures.taken yes c.self.inside.cost) n.seen n.base

pub returns-in_err-note-clause-err : goal.returns-in_err-note-clause-err
returns-in_err-note-clause-err g c =
    when_err c.from_residual.result (lost _ _ c.count.new.self c.note.new.self
    (Word (CountLine c.args.outputs c.args.inputs.now) c.count.new.made) c.self.view_is
    c.has_failed.ensures.kept c.in_err-note.ensures.err)

pub returns-in_err-note-clause-same : goal.returns-in_err-note-clause-same
returns-in_err-note-clause-same g c =
    same_next _ _ _ _ _ c.self.view_is c.in_err-note.ensures.err.seen

pub returns-clause-taken : goal.returns-clause-taken
returns-clause-taken g c =
    let works = sym c.has_failed.ensures.failed ∙ c.if-has_failed.false in
    λ _. brings _ _ _ _ _ _ c.self.view_is c.has_failed.ensures.kept works
    c.in_ok-note.ensures.ok refl

pub returns-clause-same : goal.returns-clause-same
returns-clause-same g c = same_next _ _ _ _ _ c.self.view_is c.in_ok-note.ensures.ok.seen
