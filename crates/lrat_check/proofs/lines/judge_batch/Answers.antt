-- A line more of those that were read together, and the first fault.
use Rattle.std.proofs.Common.{ap, arith, drop, subst, sym}
use Rattle.lrat_machine.specs.Machine.{MachineState}
use Rattle.lrat_check.specs.Pieces.{JudgesUpTo}
use Rattle.lrat_check.proofs.ReadingLaws.{judged_more, judged_fault}
use Rattle.lrat_check.proofs.lines.judge_batch.Goals as goal

pub returns-in-Some-clause-judges : goal.returns-in-Some-clause-judges
returns-in-Some-clause-judges c = λ bytes read.
    judged_fault c.args.machine.now c.read_ahead.new.self c.judge_read.new.machine bytes
    c.get.result _ _ c.get.ensures c.in_ok-refused.field-0 c.in-Some.refused c.in-Some.is
    c.in_ok-refused.ensures.judges
    (subst (λ m. JudgesUpTo c.args.machine.now bytes m (drop c.loop-place.place c.args.batch.now))
    (sym c.read_ahead.ensures.unchanged) (c.loop-place.invariant.judged bytes read))

pub loop-place-preserved : goal.loop-place-preserved
loop-place-preserved c = record {
  judged = λ bytes read.
      judged_more c.args.machine.now c.read_ahead.new.self c.judge_read.new.machine bytes
      c.get.result _ _ c.get.ensures c.in_ok-refused.field-0 c.in_default.is
      c.in_ok-refused.ensures.judges
      (subst (λ m. JudgesUpTo c.args.machine.now bytes m
      (drop c.loop-place.place c.args.batch.now)) (sym c.read_ahead.ensures.unchanged)
      (c.loop-place.invariant.judged bytes read));
  lines = omega (
    arith,
    c.in_ok-refused.ensures.lines,
    c.loop-place.invariant.lines,
    ap (λ (m : MachineState). m.lines) c.read_ahead.ensures.unchanged,
  );
}
