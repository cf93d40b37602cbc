-- One stage more.
use Rattle.std.proofs.Common.{◌≡◌, ◌+◌, ◌-◌, ◌<◌, suc, length, sym, ◌∙◌, ap, subst}
use Rattle.std.proofs.Common.{arith, ◌++◌, length-append}
use Rattle.std.proofs.lemmas.Result.{IfOk-from_err}
use Rattle.totalizer.specs.Stages.{size_of, outputs_of, stage, stages}
use Rattle.totalizer.proofs.Laws.{stages_from, stages_worth, stages_size}
use Rattle.forms.proofs.Staging.{leaf_stages, next_length, next_stage, outputs_stages, stages_rise}
use Rattle.forms.proofs.growing.add_stages.Goals as goal

pub returns-then-size-eq1 : goal.returns-then-size-eq1
returns-then-size-eq1 c =
    let t = c.args.totalizer.now in
    let one : size_of t ≡ 1 = sym c.size.ensures ∙ c.if-size-eq1.true in
    let count : 1 ≡ c.args.count = omega (arith, c.requires.some, c.requires.few, one) in
    let all = sym (leaf_stages c.args.fresh t one) ∙ ap (λ n. stages n 1 c.args.fresh t) count in
    record {
      few = omega (arith, ap length c.requires.none);
      tree = ap (λ g. g.tree) all;
      clauses = c.requires.none ∙ ap (λ g. g.clauses) all;
      fresh = ap (λ g. g.fresh) all;
    }

pub returns-then-count_stage_clauses-room : goal.returns-then-count_stage_clauses-room
returns-then-count_stage_clauses-room c =
    let t = c.args.totalizer.now in
    let v = c.args.fresh in
    let d = c.loop-done.done in
    let inv = c.loop-done.invariant in
    let outs : length (outputs_of c.loop-done.totalizer) ≡ d =
    ap (λ x. length (outputs_of x)) inv.tree
    ∙ outputs_stages d v t
    (omega (arith, c.size.ensures, c.if-size-eq1.false, c.requires.some, c.requires.few))
    c.requires.bare (omega (arith, c.loop-done-test.true, c.requires.few)) in
    let next =
    next_length d v t c.loop-done.totalizer c.count_stage_clauses.result inv.tree outs
    c.count_stage_clauses.ensures in
    let left = c.args.count - suc d in
    let whole : suc d + left ≡ c.args.count = omega (arith, c.loop-done-test.true) in
    subst (λ n. c.args.room < length (stages n 1 v t).clauses) whole
    (omega (
      arith,
      stages_rise (suc d) left 1 v t,
      next,
      ap length inv.clauses,
      c.len.ensures,
      c.if-count_stage_clauses-room.true,
      inv.few,
    ))

pub add_stage-requires-clause-more : goal.add_stage-requires-clause-more
add_stage-requires-clause-more c =
    let t = c.args.totalizer.now in
    let v = c.args.fresh in
    let d = c.loop-done.done in
    let inv = c.loop-done.invariant in
    omega (
      arith,
      ap (λ x. length (outputs_of x)) inv.tree,
      outputs_stages d v t
          (omega (arith, c.size.ensures, c.if-size-eq1.false, c.requires.some, c.requires.few))
          c.requires.bare (omega (arith, c.loop-done-test.true, c.requires.few)),
      ap size_of inv.tree,
      stages_size d 1 v t,
      c.loop-done-test.true,
      c.requires.few,
    )

pub add_stage-requires-clause-from_one : goal.add_stage-requires-clause-from_one
add_stage-requires-clause-from_one c =
    omega (
      arith,
      c.loop-done.invariant.fresh,
      c.requires.from_one,
      stages_from c.loop-done.done 1 c.args.fresh c.args.totalizer.now,
    )

pub add_stage-requires-clause-room : goal.add_stage-requires-clause-room
add_stage-requires-clause-room c =
    let t = c.args.totalizer.now in
    let v = c.args.fresh in
    let d = c.loop-done.done in
    let inv = c.loop-done.invariant in
    omega (
      arith,
      inv.fresh,
      stages_worth d 0 v t c.requires.bare,
      ap length inv.clauses,
      inv.few,
      ap size_of inv.tree,
      stages_size d 1 v t,
      c.requires.variables,
    )

pub loop-done-preserved : goal.loop-done-preserved
loop-done-preserved c =
    let t = c.args.totalizer.now in
    let v = c.args.fresh in
    let d = c.loop-done.done in
    let inv = c.loop-done.invariant in
    let now = c.loop-done.totalizer in
    let outs : length (outputs_of now) ≡ d =
    ap (λ x. length (outputs_of x)) inv.tree
    ∙ outputs_stages d v t
    (omega (arith, c.size.ensures, c.if-size-eq1.false, c.requires.some, c.requires.few))
    c.requires.bare (omega (arith, c.loop-done-test.true, c.requires.few)) in
    let all = next_stage d v c.loop-done.next t now inv.tree inv.fresh outs in
    let made = c.in_ok-next.ensures in
    let cs = (stage (length (outputs_of now) + 1) c.loop-done.next now).clauses in
    record {
      tree = made.tree ∙ sym (ap (λ g. g.tree) all);
      clauses =
          made.clauses
          ∙ ap (λ x. x ++ cs) inv.clauses ∙ sym (ap (λ g. g.clauses) all);
      fresh = made.fresh ∙ sym (ap (λ g. g.fresh) all);
      few =
          omega (
            arith,
            ap length made.clauses,
            length-append c.loop-done.clauses cs,
            c.count_stage_clauses.ensures c.loop-done.next,
            c.if-count_stage_clauses-room.false,
            c.len.ensures,
            inv.few,
          );
    }

pub returns-in_err-next : goal.returns-in_err-next
returns-in_err-next c = IfOk-from_err c.from_residual.result _ c.from_residual.ensures.0
