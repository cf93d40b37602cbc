-- One output more is frozen, and in the end all are.
use Rattle.std.proofs.Common.{◌≡◌, ◌∙◌, ◌≤◌, length, arith, sym, subst}
use Rattle.std.proofs.lemmas.List.{take_all}
use Rattle.improve.specs.Frozen.{IsFrozenOutput, AreFrozen, KeepsFrozen}
use Rattle.improve.proofs.FrozenOutputs.{frozen_more, some_frozen}
use Rattle.improve.proofs.frozen.freeze_outputs.Goals as goal
use Rattle.improve.proofs.frozen.freeze_outputs.Goals.{in-Some, in-None}

pub loop-output-preserved : goal.loop-output-preserved
loop-output-preserved c =
    let i = c.loop-output.invariant in
    let facts : (length c.match-output.frozen.items ≡ c.args.vars)
    × KeepsFrozen c.loop-output.frozen.items c.match-output.frozen.items
    × IsFrozenOutput c.match-output.frozen.items c.output-item.result =
    elim c.match-output.branch [
      | in-Some w ↦ rw w.frozen-is (
        w.freeze.ensures.len ∙ i.len,
        w.freeze.ensures.kept,
        some_frozen _ c.output-item.result w.in-Some.lit w.variable.result w.in-Some.is
            w.variable.ensures.variable w.freeze.ensures.here,
      )
      | in-None w ↦ rw w.frozen-is (
        i.len,
        λ k h. h,
        subst (IsFrozenOutput c.loop-output.frozen.items) (sym w.in-None.is) tt,
      )
    ] in
    record {
      len = facts.0;
      frozen =
          frozen_more c.loop-output.frozen.items c.match-output.frozen.items c.args.outputs.now
          c.loop-output.output-index c.output-item.result facts.1 facts.2 (omega arith)
          c.output-item.is i.frozen;
    }

pub returns-clause-frozen : goal.returns-clause-frozen
returns-clause-frozen c =
    let all : length c.args.outputs.now ≤ c.loop-output.output-index = omega arith in
    subst (AreFrozen c.loop-output.frozen.items)
    (take_all c.loop-output.output-index c.args.outputs.now all) c.loop-output.invariant.frozen
