use Rattle.std.proofs.Common.{◌≡◌, ◌+◌, ◌++◌, ◌∷◌, [], true, length, set, Some, refl, sym}
use Rattle.std.proofs.Common.{ap, subst, ◌∙◌}
use Rattle.cnf.specs.Literal.{index_of}
use Rattle.propagate_watches.specs.declared.table.Attachment.TheVariants.{Watching}
use Rattle.propagate_watches.specs.Pool.{row_at, with_row}
use Rattle.propagate_watches.specs.Table.{attachment_in}
use Rattle.propagate.specs.Watches.{EngineState, IsVariable, is_attached}
use Rattle.propagate.specs.Steps.{InRow, IsTrueIn, Continues, with_rows, with_trail}
use Rattle.propagate.specs.Steps.{entry_of}
use Rattle.propagate_trail.proofs.Laws.{made}
use Rattle.propagate.proofs.Looking.{within_variable, same_other}
use Rattle.propagate.proofs.Stepping.{keep_row, imply_row, rewatch_row}
use Rattle.propagate.proofs.Stepping.{kept_by, moved_row, engine_trail, last_true}
use Rattle.propagate.proofs.Continuing.{continues_attachment}
use Rattle.propagate.proofs.engine.Engine.step.Goals as goal

pub rewatch-requires-clause-lit : goal.rewatch-requires-clause-lit
rewatch-requires-clause-lit c =
    let W = c.entry_at-entry.ensures.known in
    within_variable c.args.self.now.variables W.clause c.in-Watch.lit W.within
    (c.in-Watch.ensures.2.1 W.clause W.live)

pub rewatch-requires-clause-other : goal.rewatch-requires-clause-other
rewatch-requires-clause-other c =
    let now = c.args.self.now in
    let W = c.entry_at-entry.ensures.known in
    let same =
    same_other (attachment_in now.watches.table c.entry_at-entry.result.reference) c.args.falsified
    W.other c.in-Watch.other W.apart W.attachment c.in-Watch.ensures.0 in
    subst (IsVariable now.variables) (sym same)
    (within_variable now.variables W.clause W.other W.within W.member)

pub returns-in-True-clause-after : goal.returns-in-True-clause-after
returns-in-True-clause-after c =
    subst (λ z. InRow c.args.store.now.slots z c.args.falsified (c.args.write + 1)
    (c.args.read + 1)) (sym c.write_entry.ensures)
    (keep_row c.args.store.now.slots c.args.self.now c.args.falsified c.args.write c.args.read
    c.entry_at-entry.result c.in-True.blocker c.entry_at-entry.ensures.sound c.requires.state
    c.requires.more
    c.entry_at-entry.ensures.at c.in-True.ensures)

pub returns-in-Unit-clause-after : goal.returns-in-Unit-clause-after
returns-in-Unit-clause-after c =
    let now = c.args.self.now in
    let slots = c.args.store.now.slots in
    let w = c.args.falsified in
    let r = c.entry_at-entry.result.reference in
    let l = c.in-Unit.blocker in
    let W = c.entry_at-entry.ensures.known in
    let was : is_attached now r ≡ true =
    kept_by (attachment_in now.watches.table r) w W.other W.attachment in
    let unit = c.in-Unit.ensures.2 W.clause W.live in
    let named : IsVariable now.variables l =
    within_variable now.variables W.clause l W.within unit.member in
    let e1 = with_trail now (now.trail ++ made l (Some r) ∷ []) in
    let st1 =
    imply_row slots now w c.args.write c.args.read l r W.clause c.entry_at-entry.ensures.sound
    c.requires.state W.live
    was unit named in
    let is_true : IsTrueIn slots e1 r l =
    λ d live. ((c.in-Unit.ensures.2 d live).member, last_true now.trail (made l (Some r))) in
    subst (λ z. InRow slots z w (c.args.write + 1) (c.args.read + 1))
    (sym (c.write_entry-in-Unit.ensures
    ∙ ap (λ (e : EngineState). with_rows e
    (with_row e.watches.rows (index_of w)
    (set (row_at e.watches.rows (index_of w)) c.args.write (entry_of r l))))
    c.imply.ensures.pushed))
    (keep_row slots e1 w c.args.write c.args.read c.entry_at-entry.result l
    (engine_trail now (made l (Some r)) c.entry_at-entry.ensures.sound) st1 c.requires.more
    c.entry_at-entry.ensures.at is_true)

pub returns-in-Ok-clause-after : goal.returns-in-Ok-clause-after
returns-in-Ok-clause-after c =
    subst (λ z. InRow c.args.store.now.slots z c.args.falsified c.args.write (c.args.read + 1))
    (sym c.in-Ok.ensures.ok)
    (rewatch_row c.args.store.now.slots c.args.self.now c.args.falsified c.args.write c.args.read
    c.entry_at-entry.result c.in-Watch.other c.in-Watch.lit c.entry_at-entry.ensures.sound
    c.requires.state
    c.requires.more c.entry_at-entry.ensures.at c.in-Watch.ensures.0 c.in-Watch.ensures.1
    c.in-Watch.ensures.2)

pub returns-in-Ok-clause-continues : goal.returns-in-Ok-clause-continues
returns-in-Ok-clause-continues c =
    let now = c.args.self.now in
    let r = c.entry_at-entry.result.reference in
    let was : is_attached now r ≡ true =
    kept_by (attachment_in now.watches.table r) c.args.falsified c.in-Watch.other
    c.in-Watch.ensures.0 in
    subst (Continues now) (sym c.in-Ok.ensures.ok)
    (continues_attachment now r (Watching c.in-Watch.lit c.in-Watch.other _) _ was refl
    (λ e. (cc)))

pub returns-in-Ok-clause-len : goal.returns-in-Ok-clause-len
returns-in-Ok-clause-len c =
    let now = c.args.self.now in
    let r = c.entry_at-entry.result.reference in
    let w = c.args.falsified in
    let was : is_attached now r ≡ true =
    kept_by (attachment_in now.watches.table r) w c.in-Watch.other c.in-Watch.ensures.0 in
    ap (λ (e : EngineState). length (row_at e.watches.rows (index_of w))) c.in-Ok.ensures.ok
    ∙ ap length (moved_row c.args.store.now.slots now w c.args.write c.args.read r c.in-Watch.other
    c.in-Watch.lit c.entry_at-entry.ensures.sound c.requires.state
    was c.in-Watch.ensures.2)

pub returns-in-False-clause-after : goal.returns-in-False-clause-after
returns-in-False-clause-after c =
    let r = c.entry_at-entry.result.reference in
    let W = c.entry_at-entry.ensures.known in (
      c.requires.state,
      (
        kept_by (attachment_in c.args.self.now.watches.table r) c.args.falsified W.other
            W.attachment,
        (W.clause, W.live, c.in-False.ensures W.clause W.live),
      ),
    )
