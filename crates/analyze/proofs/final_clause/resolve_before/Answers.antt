use Rattle.std.proofs.Common.{rules, arith, ◌≡◌, ◌≢◌, ◌<◌, length, sym, ◌∙◌}
use Rattle.analyze.specs.declared.marks.Mark.TheVariants.{Kept}
use Rattle.analyze.specs.Marks.{mark_at}
use Rattle.analyze.proofs.Finals.{before_none, before_reduces}
use Rattle.analyze.proofs.final_clause.resolve_before.Goals as goal

pub loop-position-init : goal.loop-position-init
loop-position-init c = record {
  reduces = before_none c.args.store.now.slots c.args.engine.now.trail c.args.falsified
      c.args.marking.now.marks.items c.requires.before;
  marking = c.requires.marking;
}

pub loop-position-preserved-in-Some : goal.loop-position-preserved-in-Some
loop-position-preserved-in-Some c =
    let T = c.args.engine.now.trail in
    let slots = c.args.store.now.slots in
    let l = c.args.falsified in
    let M = c.loop-position.marking.marks.items in
    let N = c.resolve_one.new.marking.marks.items in
    let v = c.variable_of-variable.result in
    let i = c.loop-position.invariant in
    let kept : mark_at M v ≡ Kept = search rules in
    let ne : v ≢ l.variable = search rules in
    let small = c.variable_of-variable.ensures in
    let room : v < length M = let wide = i.marking.room in omega arith in
    record {
      reduces =
          before_reduces slots T l c.args.marking.now.marks.items M N v c.in-Some-reason.reason
          c.requires.fits.reasons kept ne room (sym c.reason.ensures ∙ c.in-Some-reason.is)
          c.resolve_one.ensures.resolved i.reduces;
      marking = c.resolve_one.ensures.marking;
    }
