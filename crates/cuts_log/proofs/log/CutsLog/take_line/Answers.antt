use Rattle.std.proofs.Common.{◌≡◌, true, sym, ◌∙◌, rules}
use Rattle.lrat_log.specs.Log.{LogLine}
use Rattle.cuts_log.specs.Events.{Plain}
use Rattle.cuts_log.proofs.Keeping.{kept_next}
use Rattle.cuts_log.proofs.log.CutsLog.take_line.Goals as goal

pub invariant_of-self-in_err-note : goal.invariant_of-self-in_err-note
invariant_of-self-in_err-note g c =
    let line : LogLine = record {
      kind = c.args.kind;
      clause = c.args.lits.now;
      hints = c.args.hints.now;
    } in
    let room : c.has_room.result ≡ true = search rules in
    let own = sym c.is_axiom.ensures ∙ c.if-is_axiom.false in
    let f = c.in_err-note.ensures.err in
    kept_next _ (Plain line) c.take_line.new.self c.note.new.self c.self.invariant
    (c.has_room.ensures.works room)
    (c.requires.line, own, c.in_ok-take_line.ensures.ok) f.seen
    f.base

pub invariant_of-self-2 : goal.invariant_of-self-2
invariant_of-self-2 g c =
    let line : LogLine = record {
      kind = c.args.kind;
      clause = c.args.lits.now;
      hints = c.args.hints.now;
    } in
    let room : c.has_room.result ≡ true = search rules in
    let own = sym c.is_axiom.ensures ∙ c.if-is_axiom.false in
    let n = c.in_ok-note.ensures.ok in
    kept_next _ (Plain line) c.take_line.new.self c.note.new.self c.self.invariant
    (c.has_room.ensures.works room)
    (c.requires.line, own, c.in_ok-take_line.ensures.ok) n.seen
    n.base
