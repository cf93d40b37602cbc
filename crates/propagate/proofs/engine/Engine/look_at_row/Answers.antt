use Rattle.std.proofs.Common.{◌≡◌, ℕ, refl, sym, ap, subst, ◌∙◌}
use Rattle.cnf.specs.Literal.{Literal, index_of}
use Rattle.clauses.specs.Slots.{Slots}
use Rattle.propagate.specs.Watches.{EngineState}
use Rattle.propagate.specs.Steps.{Continues, GoesOn, AreTrueWaiting, IsConflict, InRow, closed}
use Rattle.propagate.proofs.Continuing.{continues_same, continues_then, continues_rows}
use Rattle.propagate.proofs.engine.Engine.look_at_row.Goals as goal

-- entries that are gone change nothing else
goes_on_closed : (slots : Slots) (e f g : EngineState) (w : Literal) (write read : ℕ)
    → Continues e f → InRow slots f w write read → g ≡ closed f (index_of w) write read
    → GoesOn slots e g
goes_on_closed slots e f g w write read a b h = subst (GoesOn slots e) (sym h) (record {
  continues = continues_then e f (closed f (index_of w) write read) a
      (continues_rows f (closed f (index_of w) write read).watches.rows f.watches.waiting);
  fits = b.fits;
})

waiting_closed : (slots : Slots) (f g : EngineState) (w : Literal) (write read : ℕ)
    → InRow slots f w write read → g ≡ closed f (index_of w) write read → AreTrueWaiting slots g
waiting_closed slots f g w write read b h = subst (AreTrueWaiting slots) (sym h) b.waiting

pub loop-read-init : goal.loop-read-init
loop-read-init c = record {
  continues = continues_same c.args.self.now;
  state = c.skip_true-write.ensures;
  long = c.row_len-len.ensures;
  qhead = refl;
}

pub loop-read-preserved-in-Kept : goal.loop-read-preserved-in-Kept
loop-read-preserved-in-Kept c =
    let inv = c.loop-read.invariant in
    let s = c.in-Kept.ensures in
    record {
      continues =
          continues_then c.args.self.now c.loop-read.self c.step.new.self inv.continues s.continues;
      state = s.after;
      long = inv.long ∙ sym s.len;
      qhead = s.qhead ∙ inv.qhead;
    }

pub loop-read-preserved : goal.loop-read-preserved
loop-read-preserved c =
    let inv = c.loop-read.invariant in
    let s = c.in-Moved.ensures in
    record {
      continues =
          continues_then c.args.self.now c.loop-read.self c.step.new.self inv.continues s.continues;
      state = s.after;
      long = inv.long ∙ sym s.len;
      qhead = s.qhead ∙ inv.qhead;
    }

pub returns-in-Conflict-clause-goes_on : goal.returns-in-Conflict-clause-goes_on
returns-in-Conflict-clause-goes_on c =
    let s = c.in-Conflict.ensures in
    goes_on_closed c.args.store.now.slots c.args.self.now c.step.new.self c.close_row.new.self
    c.args.falsified c.loop-read.write c.loop-read.read
    (continues_then c.args.self.now c.loop-read.self c.step.new.self
    c.loop-read.invariant.continues s.continues) s.after.0 c.close_row.ensures

pub returns-in-Conflict-clause-waiting : goal.returns-in-Conflict-clause-waiting
returns-in-Conflict-clause-waiting c =
    waiting_closed c.args.store.now.slots c.step.new.self c.close_row.new.self c.args.falsified
    c.loop-read.write c.loop-read.read c.in-Conflict.ensures.after.0 c.close_row.ensures

pub returns-in-Conflict-clause-qhead : goal.returns-in-Conflict-clause-qhead
returns-in-Conflict-clause-qhead c =
    ap (λ (e : EngineState). e.watches.qhead) c.close_row.ensures
    ∙ c.in-Conflict.ensures.qhead ∙ c.loop-read.invariant.qhead

pub returns-in-Conflict-clause-conflict : goal.returns-in-Conflict-clause-conflict
returns-in-Conflict-clause-conflict c =
    subst (λ e. IsConflict c.args.store.now.slots e c.in-Conflict.reference)
    (sym c.close_row.ensures) c.in-Conflict.ensures.after.1

pub returns-in-Refused-clause-goes_on : goal.returns-in-Refused-clause-goes_on
returns-in-Refused-clause-goes_on c =
    let s = c.in-Refused.ensures in
    goes_on_closed c.args.store.now.slots c.args.self.now c.step.new.self
    c.close_row-in-Refused.new.self c.args.falsified c.loop-read.write c.loop-read.read
    (continues_then c.args.self.now c.loop-read.self c.step.new.self
    c.loop-read.invariant.continues s.continues) s.after c.close_row-in-Refused.ensures

pub returns-in-Refused-clause-waiting : goal.returns-in-Refused-clause-waiting
returns-in-Refused-clause-waiting c =
    waiting_closed c.args.store.now.slots c.step.new.self c.close_row-in-Refused.new.self
    c.args.falsified c.loop-read.write c.loop-read.read c.in-Refused.ensures.after
    c.close_row-in-Refused.ensures

pub returns-in-Refused-clause-qhead : goal.returns-in-Refused-clause-qhead
returns-in-Refused-clause-qhead c =
    ap (λ (e : EngineState). e.watches.qhead) c.close_row-in-Refused.ensures
    ∙ c.in-Refused.ensures.qhead ∙ c.loop-read.invariant.qhead
