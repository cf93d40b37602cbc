use Rattle.std.proofs.Common.{◌≡◌, ◌∷◌, [], true, rules, refl}
use Rattle.lrat_log.proofs.Laws.{when_err}
use Rattle.lrat_read.specs.Words.{CutLine}
use Rattle.cuts_log.specs.Events.{Word}
use Rattle.cuts_log.proofs.Keeping.{brings, kept_next, lost, same_next}
use Rattle.cuts_log.proofs.log.CutsLog.take_cut.Goals as goal

pub invariant_of-self-in_err-note : goal.invariant_of-self-in_err-note
invariant_of-self-in_err-note g c =
    let room : c.has_room.result ≡ true = search rules in
    let yes : c.in_ok-cut.field-0 ≡ true = search rules in
    let f = c.in_err-note.ensures.err in
    kept_next _ (Word (CutLine c.args.lits.now) (c.args.lits.now ∷ [])) c.cut.new.self
    c.note.new.self c.self.invariant (c.has_room.ensures.works room) (c.in_ok-cut.ensures.taken yes)
    f.seen f.base

pub invariant_of-self-2 : goal.invariant_of-self-2
invariant_of-self-2 g c =
    let room : c.has_room.result ≡ true = search rules in
    let yes : c.in_ok-cut.field-0 ≡ true = search rules in
    let n = c.in_ok-note.ensures.ok in
    kept_next _ (Word (CutLine c.args.lits.now) (c.args.lits.now ∷ [])) c.cut.new.self
    c.note.new.self c.self.invariant (c.has_room.ensures.works room) (c.in_ok-cut.ensures.taken yes)
    n.seen n.base

pub returns-in_err-note-clause-err : goal.returns-in_err-note-clause-err
returns-in_err-note-clause-err g c =
    when_err c.from_residual-in_err-note.result (lost _ _ c.cut.new.self c.note.new.self
    (Word (CutLine c.args.lits.now) (c.args.lits.now ∷ [])) c.self.view_is c.has_room.ensures.kept
    c.in_err-note.ensures.err)

pub returns-in_err-note-clause-same : goal.returns-in_err-note-clause-same
returns-in_err-note-clause-same g c =
    same_next _ _ _ _ _ c.self.view_is c.in_err-note.ensures.err.seen

pub returns-clause-taken : goal.returns-clause-taken
returns-clause-taken g c =
    let room : c.has_room.result ≡ true = search rules in
    λ _. brings _ _ _ _ _ _ c.self.view_is c.has_room.ensures.kept
    (c.has_room.ensures.works room) c.in_ok-note.ensures.ok refl

pub returns-clause-same : goal.returns-clause-same
returns-clause-same g c = same_next _ _ _ _ _ c.self.view_is c.in_ok-note.ensures.ok.seen
