use Rattle.std.proofs.Common.{rules, arith, ◌≡◌, ◌<◌, Some, sym, ◌∙◌, ap, subst, length}
use Rattle.std.proofs.lemmas.List.{length-set}
use Rattle.std.specs.Prelude.{unwrap_or}
use Rattle.propagate.specs.Trail.{depth_of}
use Rattle.analyze.specs.declared.marks.Mark.TheVariants.{Kept, Resolved}
use Rattle.analyze.specs.Marks.{mark_at, level_at_variable, IsReducing}
use Rattle.analyze.proofs.Counting.{current_le}
use Rattle.analyze.proofs.Reducing.{level_current, reducing_resolved}
use Rattle.analyze.proofs.Walking.{IsLiteralAt, is_literal_at, reduces_last}
use Rattle.analyze.proofs.marks.resolve_marked.Goals as goal
use Rattle.analyze.proofs.marks.resolve_marked.Goals.{After-variable-variable, Then-eq-2}

-- the literal at the position
here : (c : After-variable-variable)
    → IsLiteralAt c.args.engine.now c.args.store.now.slots c.in-Some.position
    c.index-trail-position.result c.variable-variable.result
here c =
    let i = c.loop-position.invariant in
    is_literal_at c.args.engine.now c.args.store.now.slots c.trail-trail.result.now
    c.in-Some.position
    c.index-trail-position.result c.variable-variable.result c.requires.fits i.literals
    (let low = c.in-Some.ensures in let within = i.within in omega arith)
    c.index-trail-position.is c.variable-variable.ensures.variable

-- it is of the current level
level : (c : Then-eq-2)
    → level_at_variable c.args.engine.now.trail c.variable-variable.result
    ≡ depth_of c.args.engine.now.trail
level c =
    let is : c.level.result ≡ Some c.depth-depth.result = search rules in
    ap (λ o. unwrap_or o 0) (sym c.level.ensures ∙ is) ∙ c.depth-depth.ensures

pub mark_of-requires : goal.mark_of-requires
mark_of-requires c =
    let small = (here (goal.at.mark_of-requires c).After-variable-variable).small in
    let room = c.loop-position.invariant.marking.room in
    omega arith

pub returns-then-left-eq1-clause-reduces : goal.returns-then-left-eq1-clause-reduces
returns-then-left-eq1-clause-reduces c =
    let M = c.loop-position.marking.marks.items in
    let kept : mark_at M c.variable-variable.result ≡ Kept = search rules in
    let e = c.args.engine.now in
    let slots = c.args.store.now.slots in
    let O = c.args.marking.now.marks.items in
    reduces_last e slots O M c.in-Some.position c.index-trail-position.result
    c.variable-variable.result
    (here (goal.at.returns-then-left-eq1-clause-reduces c).After-variable-variable) kept
    (level (goal.at.returns-then-left-eq1-clause-reduces c).Then-eq-2)
    (subst (IsReducing slots e.trail O M) c.if-left-eq1.true
    c.loop-position.invariant.state)

pub overflow_add-left : goal.overflow_add-left
overflow_add-left c =
    let T = c.args.engine.now.trail in
    let current = level_current T c.variable-variable.result
    (level (goal.at.overflow_add-left c).Then-eq-2) in
    let n = c.resolve_one-fresh.ensures.counted current in
    let m = c.loop-position.invariant.state.counted in
    let some = c.loop-position.invariant.state.some in
    let most = current_le T c.resolve_one-fresh.new.marking.marks.items in
    let d = c.resolve_one-fresh.ensures.resolved in
    let long = ap length d.resolved ∙ length-set d.between c.variable-variable.result Resolved in
    let between = d.marks.long in
    let first = c.loop-position.invariant.state.long in
    let fits : length c.args.marking.now.marks.items < 18446744073709551616 = search rules in
    omega arith

pub loop-position-preserved-then-eq-2 : goal.loop-position-preserved-then-eq-2
loop-position-preserved-then-eq-2 c =
    let i = c.loop-position.invariant in
    let T = c.args.engine.now.trail in
    let slots = c.args.store.now.slots in
    let M = c.loop-position.marking.marks.items in
    let v = c.variable-variable.result in
    let at = here (goal.at.loop-position-preserved-then-eq-2 c).After-variable-variable in
    let kept : mark_at M v ≡ Kept = search rules in
    let current =
    level_current T v (level (goal.at.loop-position-preserved-then-eq-2 c).Then-eq-2) in
    let lt = at.within in
    let small = at.small in
    record {
      state =
          reducing_resolved slots T c.args.marking.now.marks.items M
          c.resolve_one-fresh.new.marking.marks.items c.loop-position.left
          c.resolve_one-fresh.result v c.in-Some-reason.reason at.reasons kept
          (let room = i.marking.room in omega arith)
          (sym c.reason.ensures ∙ c.in-Some-reason.is) c.resolve_one-fresh.ensures.resolved
          (c.resolve_one-fresh.ensures.counted current) c.if-left-eq1.false i.state;
      within = omega arith;
      literals = i.literals;
      marking = c.resolve_one-fresh.ensures.marking;
    }
