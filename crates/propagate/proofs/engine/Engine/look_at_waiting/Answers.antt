use Rattle.std.proofs.Common.{◌≤◌, sym, subst, ◌∙◌, length, arith}
use Rattle.std.specs.Bool.{MatchBool}
use Rattle.propagate.specs.Steps.{GoesOn, IsTrueWaiting, IsConflict, AreTrueWaiting}
use Rattle.propagate.proofs.Continuing.{goes_on_then, continues_rows}
use Rattle.propagate.proofs.Waiting.{seen_more, all_seen, fits_waiting}
use Rattle.propagate.proofs.engine.Engine.look_at_waiting.Goals as goal

pub loop-at-preserved : goal.loop-at-preserved
loop-at-preserved c =
    let slots = c.args.store.now.slots in
    let old = c.loop-at.self in
    let new = c.look_at_reference.new.self in
    let inv = c.loop-at.invariant in
    let f = c.in_ok-look_at_reference.ensures in
    let x = c.waiting_at-reference.result in
    let here : IsTrueWaiting slots new x =
    subst (λ b. MatchBool b (IsTrueWaiting slots new x) (IsConflict slots new x))
    c.if-not-branch.false f.done in
    record {
      goes_on = goes_on_then slots c.args.self.now old new inv.goes_on f.goes_on;
      list = f.list ∙ inv.list;
      seen =
          seen_more slots old new c.args.self.now.watches.waiting old.watches.waiting c.loop-at.at x
          inv.list (let t = c.loop-at-test.true in let n = c.waiting_len-at-end.ensures in
          omega arith) c.waiting_at-reference.ensures f.goes_on.continues inv.seen here;
    }

pub returns-clause-goes_on : goal.returns-clause-goes_on
returns-clause-goes_on c =
    let slots = c.args.store.now.slots in
    let e = c.loop-at.self in
    let on = c.loop-at.invariant.goes_on in
    goes_on_then slots c.args.self.now e c.prune_waiting.new.self on
    (subst (GoesOn slots e) (sym c.prune_waiting.ensures)
    (record {
      continues = continues_rows e e.watches.rows _;
      fits = fits_waiting e slots on.fits;
    }))

pub returns-clause-waiting : goal.returns-clause-waiting
returns-clause-waiting c =
    let slots = c.args.store.now.slots in
    let le : length c.args.self.now.watches.waiting ≤ c.loop-at.at = let t = c.loop-at-test.false in
    let n = c.waiting_len-at-end.ensures in omega arith in
    subst (AreTrueWaiting slots) (sym c.prune_waiting.ensures)
    (all_seen slots c.loop-at.self c.args.self.now.watches.waiting c.loop-at.at
    c.loop-at.invariant.goes_on.fits c.loop-at.invariant.list le c.loop-at.invariant.seen)
