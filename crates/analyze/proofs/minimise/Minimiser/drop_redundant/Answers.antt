use Rattle.std.proofs.Common.{rules, arith, ◌≡◌, ◌≢◌, ◌<◌, length, sym, ◌∙◌}
use Rattle.analyze.specs.declared.marks.Mark.TheVariants.{Kept}
use Rattle.analyze.specs.Marks.{mark_at}
use Rattle.analyze.proofs.Lower.{lower_reduces}
use Rattle.analyze.proofs.minimise.Minimiser.drop_redundant.Goals as goal

pub loop-settled-preserved-in-Some : goal.loop-settled-preserved-in-Some
loop-settled-preserved-in-Some c =
    let T = c.args.engine.now.trail in
    let slots = c.args.store.now.slots in
    let M = c.loop-settled.marking.marks.items in
    let N = c.resolve_one.new.marking.marks.items in
    let v = c.min-variable.result in
    let r = c.in-Some-reason.reason in
    let u = c.args.asserting in
    let i = c.loop-settled.invariant in
    let kept : mark_at M v ≡ Kept = search rules in
    let ne : v ≢ u.variable = search rules in
    let small = c.min-variable.ensures in
    let room : v < length M = let wide = i.marking.room in omega arith in
    let here = sym c.reason.ensures ∙ c.in-Some-reason.is in
    let d = c.resolve_one.ensures.resolved in
    record {
      reduces =
          lower_reduces slots T c.args.marking.now.marks.items M N v r u c.requires.fits.reasons
          kept ne room here d i.reduces;
      marking = c.resolve_one.ensures.marking;
    }
