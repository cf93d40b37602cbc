use Rattle.std.proofs.Common.{◌∙◌, ap, get_or, sym, refl, arith}
use Rattle.std.proofs.lemmas.List.{drop_all}
use Rattle.lrat_live.specs.Counts.{take_all, times_at}
use Rattle.lrat_live.proofs.CountLaws.{taken_step, taken_stop, left_enough}
use Rattle.lrat_live.proofs.live.LiveClauses.take_all.Goals as goal

pub returns-then-not-is_next : goal.returns-then-not-is_next
returns-then-not-is_next c =
    sym (c.loop-id.invariant ∙ taken_stop (times_at c.args.lit c.args.self.now) c.loop-id.left
    c.loop-id.before c.args.ids.now c.loop-id.id-index
    (get_or c.args.ids.now c.loop-id.id-index 0) c.times_at-times.result c.loop-id-test.true
    refl c.times_at-times.ensures (sym c.if-not-is_next.ensures))

pub overflow_sub-left : goal.overflow_sub-left
overflow_sub-left c =
    omega (
      arith,
      left_enough c.loop-id.before (get_or c.args.ids.now c.loop-id.id-index 0)
          c.times_at-times.result c.loop-id.left (sym c.if-not-is_next.ensures),
    )

pub loop-id-preserved : goal.loop-id-preserved
loop-id-preserved c =
    c.loop-id.invariant ∙ taken_step (times_at c.args.lit c.args.self.now) c.loop-id.left
    c.loop-id.before c.args.ids.now c.loop-id.id-index
    (get_or c.args.ids.now c.loop-id.id-index 0) c.times_at-times.result c.loop-id-test.true refl
    c.times_at-times.ensures (sym c.if-not-is_next.ensures)

pub returns : goal.returns
returns c =
    sym (c.loop-id.invariant
    ∙ ap (take_all (times_at c.args.lit c.args.self.now) c.loop-id.left c.loop-id.before)
    (drop_all c.loop-id.id-index c.args.ids.now c.loop-id-test.false))
