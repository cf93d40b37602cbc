use Rattle.std.proofs.Common.{rules, arith, ◌≡◌, ◌≢◌, ◌<◌, sym, ◌∙◌, ap, subst, length}
use Rattle.std.proofs.lemmas.List.{length-set}
use Rattle.analyze.specs.declared.marks.Mark.TheVariants.{Kept, Resolved}
use Rattle.analyze.specs.Marks.{mark_at}
use Rattle.analyze.proofs.Counting.{current_le}
use Rattle.analyze.proofs.Walking.{IsWalked, Meets, meets, met_current, met_last, met_resolved}
use Rattle.analyze.proofs.Walking.{met_decision}
use Rattle.analyze.proofs.Walking.{met_other, walk_end}
use Rattle.analyze.proofs.marks.walk.Goals as goal
use Rattle.analyze.proofs.marks.walk.Goals.{After-variable-variable}

-- what the walk meets
met : (c : After-variable-variable)
    → Meets c.args.engine.now c.args.store.now.slots c.args.marking.now.marks.items
    c.loop-place.marking.marks.items c.loop-place.open c.loop-place.place
    c.index-trail-place.result c.variable-variable.result
met c =
    let i = c.loop-place.invariant in
    meets c.args.engine.now c.args.store.now.slots c.trail-trail.result.now
    c.args.marking.now.marks.items c.loop-place.marking.marks.items c.loop-place.open
    c.loop-place.place c.index-trail-place.result
    c.variable-variable.result c.requires.fits i.literals c.loop-place-test.true i.within
    c.index-trail-place.is c.variable-variable.ensures.variable i.walked

pub mark_of-requires : goal.mark_of-requires
mark_of-requires c =
    let i = c.loop-place.invariant in
    let m = met (goal.at.mark_of-requires c).After-variable-variable in
    let small = m.here.small in
    let room = i.marking.room in
    omega arith

pub reason-requires : goal.reason-requires
reason-requires c = (met (goal.at.reason-requires c).After-variable-variable).here.small

pub resolve_one-fresh-requires-clause-small : goal.resolve_one-fresh-requires-clause-small
resolve_one-fresh-requires-clause-small c =
    (met (goal.at.resolve_one-fresh-requires-clause-small c).After-variable-variable).here.small

pub returns-then-open-eq1 : goal.returns-then-open-eq1
returns-then-open-eq1 c =
    let m = met (goal.at.returns-then-open-eq1 c).After-variable-variable in
    let M = c.loop-place.marking.marks.items in
    let kept : mark_at M c.variable-variable.result ≡ Kept = search rules in
    record {
      reduces = met_last m kept c.if-open-eq1.true;
      marking = c.loop-place.invariant.marking;
    }

pub overflow_add-open : goal.overflow_add-open
overflow_add-open c =
    let at = met (goal.at.overflow_add-open c).After-variable-variable in
    let M = c.loop-place.marking.marks.items in
    let kept : mark_at M c.variable-variable.result ≡ Kept = search rules in
    let n = c.resolve_one-fresh.ensures.counted (met_current at kept) in
    let m = c.loop-place.invariant.walked.state.counted in
    let some = c.loop-place.invariant.walked.state.some in
    let most = current_le c.args.engine.now.trail c.resolve_one-fresh.new.marking.marks.items in
    let d = c.resolve_one-fresh.ensures.resolved in
    let long = ap length d.resolved ∙ length-set d.between c.variable-variable.result Resolved in
    let between = d.marks.long in
    let first = c.loop-place.invariant.walked.state.long in
    let fits : length c.args.marking.now.marks.items < 18446744073709551616 = search rules in
    omega arith

pub loop-place-preserved-in-Some : goal.loop-place-preserved-in-Some
loop-place-preserved-in-Some c =
    let i = c.loop-place.invariant in
    let m = met (goal.at.loop-place-preserved-in-Some c).After-variable-variable in
    let M = c.loop-place.marking.marks.items in
    let kept : mark_at M c.variable-variable.result ≡ Kept = search rules in
    let lt = m.here.within in
    let small = m.here.small in
    record {
      walked =
          met_resolved m c.resolve_one-fresh.new.marking.marks.items c.resolve_one-fresh.result
          c.in-Some.reason kept
          (let room = i.marking.room in omega arith) (sym c.reason.ensures ∙ c.in-Some.is)
          c.resolve_one-fresh.ensures.resolved
          (c.resolve_one-fresh.ensures.counted (met_current m kept)) c.if-open-eq1.false;
      within = omega arith;
      literals = i.literals;
      marking = c.resolve_one-fresh.ensures.marking;
    }

pub unreachable-requires : goal.unreachable-requires
unreachable-requires c =
    let m = met (goal.at.unreachable-requires c).After-variable-variable in
    let M = c.loop-place.marking.marks.items in
    let kept : mark_at M c.variable-variable.result ≡ Kept = search rules in
    met_decision m kept c.if-open-eq1.false (sym c.reason.ensures ∙ c.in-None.is)

pub loop-place-preserved : goal.loop-place-preserved
loop-place-preserved c =
    let i = c.loop-place.invariant in
    let m = met (goal.at.loop-place-preserved c).After-variable-variable in
    let M = c.loop-place.marking.marks.items in
    let other : mark_at M c.variable-variable.result ≢ Kept = search rules in
    let lt = m.here.within in
    record {
      walked = met_other m other;
      within = omega arith;
      literals = i.literals;
      marking = i.marking;
    }

pub unreachable-requires-2 : goal.unreachable-requires-2
unreachable-requires-2 c =
    let zero : c.loop-place.place ≡ 0 = omega arith in
    let T = c.args.engine.now.trail in
    let slots = c.args.store.now.slots in
    let O = c.args.marking.now.marks.items in
    let M = c.loop-place.marking.marks.items in
    walk_end slots T O M c.loop-place.open
    (subst (IsWalked slots T O M c.loop-place.open) zero c.loop-place.invariant.walked)
