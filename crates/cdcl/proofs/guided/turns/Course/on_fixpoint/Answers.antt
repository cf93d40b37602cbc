use Rattle.std.proofs.Common.{◌≡◌, List, length, sym, ◌∙◌, ap, arith}
use Rattle.propagate.specs.Trail.{Assigned}
use Rattle.cdcl_order.specs.Policies.{PolicyState}
use Rattle.cdcl.specs.declared.guided.GuidedEnd.TheVariants.{Spent}
use Rattle.cdcl.proofs.Rounds.{goes_restarted}
use Rattle.cdcl.proofs.Guiding.{guided_breaks, guided_ends, guided_goes, guided_after, paid_none}
use Rattle.cdcl.proofs.Guiding.{paid_nothing}
use Rattle.cdcl.proofs.guided.turns.Course.on_fixpoint.Goals as goal

pub returns-then-left-eq0-clause-turns : goal.returns-then-left-eq0-clause-turns
returns-then-left-eq0-clause-turns g c =
    let o = c.args.self.now in
    let s = o.search.now in
    let p = o.input.now in
    let b = o.budget.now in
    let ls = g.S.Sink.lines o.sink.now in
    guided_ends s s p ls ls b b Spent
    (c.requires.runs, sym c.left.ensures.left ∙ c.if-left-eq0.true) (paid_nothing p.given ls b)

pub returns-then-is_restart_due-clause-turns : goal.returns-then-is_restart_due-clause-turns
returns-then-is_restart_due-clause-turns g c =
    let o = c.args.self.now in
    let s = o.search.now in
    let p = o.input.now in
    let b = o.budget.now in
    let ls = g.S.Sink.lines o.sink.now in
    let r = c.restart.ensures in
    guided_goes s c.restart.new.self p ls ls b b
    (goes_restarted s c.restart.new.self p ls b (r.runs p ls c.requires.runs) r.variables
    (c.is_restart_due.ensures c.if-is_restart_due.true)
    (ap (λ (x : PolicyState). x.has_learned) r.policy)) (paid_nothing p.given ls b)

pub returns-in_err-note_level-clause-turns : goal.returns-in_err-note_level-clause-turns
returns-in_err-note_level-clause-turns g c =
    let o = c.args.self.now in
    let p = o.input.now in
    let b = o.budget.now in
    let ls = g.S.Sink.lines o.sink.now in
    let more = g.S.Sink.lines c.note_level.new.sink in
    guided_breaks c.from_residual.result o.search.now c.note_level.new.search p ls more b b
    c.from_residual.ensures.0 c.in_err-note_level.ensures.notes.err
    (paid_none p.given ls more b c.note_level.ensures.notes.writes)

pub go_on-requires-clause-runs : goal.go_on-requires-clause-runs
go_on-requires-clause-runs g c = c.in_ok-note_level.ensures.notes.leaves.keeps.runs

pub go_on-requires-clause-fixpoint : goal.go_on-requires-clause-fixpoint
go_on-requires-clause-fixpoint g c =
    c.in_ok-note_level.ensures.notes.leaves.keeps.fixpoint c.requires.fixpoint

pub go_on-requires-clause-noted : goal.go_on-requires-clause-noted
go_on-requires-clause-noted g c = c.in_ok-note_level.ensures.notes.leaves.all

pub go_on-requires-clause-left : goal.go_on-requires-clause-left
go_on-requires-clause-left g c = omega (arith, c.left.ensures.left, c.if-left-eq0.false)

pub returns-clause-turns : goal.returns-clause-turns
returns-clause-turns g c =
    let o = c.args.self.now in
    let s = o.search.now in
    let n = c.in_ok-note_level.ensures.notes.leaves.keeps in
    let same : length c.note_level.new.search.engine.trail ≡ length s.engine.trail =
    ap (λ (T : List Assigned). length T) n.trail in
    let m = c.go_on.new.self in
    guided_after c.go_on.result s c.note_level.new.search m.search.now o.input.now
    (g.S.Sink.lines o.sink.now) (g.S.Sink.lines c.note_level.new.sink)
    (g.S.Sink.lines m.sink.now) o.budget.now m.budget.now n.variables n.policy (omega arith)
    c.note_level.ensures.notes.writes c.go_on.ensures.turns
