use Rattle.std.proofs.Common.{◌≡◌, Some, true, subst, ap, arith}
use Rattle.propagate_trail.specs.Trail.{value_in}
use Rattle.propagate.specs.Watches.{EngineState}
use Rattle.propagate.proofs.Stepping.{blocker_within, stay_row, true_blocker}
use Rattle.propagate.proofs.engine.Engine.skip_true.Goals as goal

pub is_true-requires : goal.is_true-requires
is_true-requires c =
    omega (
      arith,
      blocker_within c.args.store.now.slots c.args.self.now c.args.falsified
          c.entry_at-entry.result c.entry_at-entry.ensures.known,
      ap (λ (x : EngineState). x.variables) c.self.view_is,
    )

pub loop-kept-preserved : goal.loop-kept-preserved
loop-kept-preserved c =
    let slots = c.args.store.now.slots in
    let now = c.args.self.now in
    let w = c.args.falsified in
    let x = c.entry_at-entry.result in
    stay_row slots now w c.loop-kept.kept x c.entry_at-entry.ensures.sound c.loop-kept.invariant
    (omega (arith, c.loop-kept-test.true, c.row_len-len.ensures)) c.entry_at-entry.ensures.at
    (true_blocker slots now w x c.entry_at-entry.ensures.known
    (subst (λ (s : EngineState). value_in s.trail x.blocker ≡ Some true) c.self.view_is
    (c.is_true.ensures.0 c.if-not-is_true.false)))
