use Rattle.std.proofs.Common.{◌≡◌, ◌≤◌, true, length, arith, sym, subst}
use Rattle.std.specs.Prelude.{Contains}
use Rattle.std.proofs.lemmas.List.{take_all}
use Rattle.propagate.specs.Watches.{is_attached}
use Rattle.propagate.specs.Subsets.{IsUnmarked}
use Rattle.propagate.proofs.Waiting.{seen_next}
use Rattle.propagate.proofs.engine.Engine.waiting_has_marked.Goals as goal

pub loop-at-preserved : goal.loop-at-preserved
loop-at-preserved c =
    let e = c.args.self.now in
    seen_next (λ r. is_attached e r ≡ true
    → IsUnmarked c.args.store.now.slots c.args.marks.now r) e.watches.waiting c.loop-at.at
    c.waiting_at.result
    (let t = c.loop-at-test.true in let n = c.waiting_len-at-end.ensures in omega arith)
    c.waiting_at.ensures (c.is_marked.ensures.none c.if-is_marked.false) c.loop-at.invariant

pub returns-clause-none : goal.returns-clause-none
returns-clause-none c = λ e r h.
    let w = c.args.self.now.watches.waiting in
    let le : length w ≤ c.loop-at.at = let t = c.loop-at-test.false in
    let n = c.waiting_len-at-end.ensures in omega arith in
    c.loop-at.invariant r (subst (λ z. Contains z r) (sym (take_all c.loop-at.at w le)) h)
