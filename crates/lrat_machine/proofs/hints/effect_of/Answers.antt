use Rattle.std.proofs.Common.{◌≡◌, ◌∙◌, ap, sym, length, arith, rules, take, Some}
use Rattle.std.specs.List.{last_or}
use Rattle.std.proofs.lemmas.List.{length_push, take_all}
use Rattle.cnf.specs.Clause.{contains_literal}
use Rattle.lrat_machine.specs.Verdict.{open_literals}
use Rattle.lrat_machine.proofs.Effects.{open_more, open_same, last_push, conflict_open, many_open}
use Rattle.lrat_machine.proofs.Effects.{true_open, makes_open}
use Rattle.lrat_machine.proofs.hints.effect_of.Goals as goal
use Rattle.lrat_machine.proofs.hints.effect_of.Goals.{then-is_true, else-is_true}
use Rattle.lrat_machine.proofs.hints.effect_of.Goals.{then-open-gt1, else-open-gt1}

pub loop-lit-preserved : goal.loop-lit-preserved
loop-lit-preserved c =
    let A = c.args.assumed.now.literals in
    let d = c.args.clause.now in
    let i = c.loop-lit.lit-index in
    let l = c.lit-item.result in
    let inv = c.loop-lit.invariant in
    let o = Some c.new-last.result in
    elim c.if-is_true.branch [
      | then-is_true w ↦
          let true_now = ap (λ k. contains_literal k A) (sym c.negation.ensures)
          ∙ sym c.is_true.ensures ∙ w.if-is_true.true in
          let same = open_same A d i l c.loop-lit-test.true c.lit-item.is true_now in
          record {
            last_open = ap Some w.last-is ∙ inv.last_open ∙ ap (last_or o) (sym same);
            number = omega (arith, w.falses-is, inv.number, ap length same);
            within = rw w.last-is (λ some. inv.within (omega (arith, some, ap length same)));
          }
      | else-is_true w ↦
          let false_now = ap (λ k. contains_literal k A) (sym c.negation.ensures)
          ∙ sym c.is_true.ensures ∙ w.if-is_true.false in
          let more = open_more A d i l c.loop-lit-test.true c.lit-item.is false_now in
          record {
            last_open = ap Some w.last-is ∙ sym (last_push o (open_literals A (take i d)) l)
                ∙ ap (last_or o) (sym more);
            number =
                omega (
                  arith,
                  w.falses-is,
                  inv.number,
                  ap length more,
                  length_push (open_literals A (take i d)) l,
                );
            within = rw w.last-is (λ _. search rules);
          }
    ]

pub returns-then-open-eq0 : goal.returns-then-open-eq0
returns-then-open-eq0 c =
    let A = c.args.assumed.now.literals in
    let d = c.args.clause.now in
    let inv = c.loop-lit.invariant in
    let all =
    ap (λ x. length (open_literals A x)) (take_all c.loop-lit.lit-index d c.loop-lit-test.false)
    in
    sym (conflict_open A d (omega (arith, all, inv.number)))

pub returns-then-is_true-2 : goal.returns-then-is_true-2
returns-then-is_true-2 c =
    let A = c.args.assumed.now.literals in
    let d = c.args.clause.now in
    let o = Some c.new-last.result in
    let inv = c.loop-lit.invariant in
    let whole = take_all c.loop-lit.lit-index d c.loop-lit-test.false in
    let all = ap (λ x. length (open_literals A x)) whole in
    elim c.if-open-gt1.branch [
      | then-open-gt1 w ↦ sym (many_open A d (omega (arith, all, inv.number, w.if-open-gt1.true)))
      | else-open-gt1 w ↦
          sym (true_open A d o c.loop-lit.last
          (omega (arith, all, inv.number, w.if-open-gt1.false, c.if-open-eq0.false))
          (inv.last_open ∙ ap (λ x. last_or o (open_literals A x)) whole)
          (sym w.is_true-else-open-gt1.ensures ∙ sym w.value-is ∙ c.if-is_true-2.true))
    ]

pub returns-else-is_true-2 : goal.returns-else-is_true-2
returns-else-is_true-2 c =
    let A = c.args.assumed.now.literals in
    let d = c.args.clause.now in
    let o = Some c.new-last.result in
    let inv = c.loop-lit.invariant in
    let whole = take_all c.loop-lit.lit-index d c.loop-lit-test.false in
    let all = ap (λ x. length (open_literals A x)) whole in
    elim c.if-open-gt1.branch [
      | then-open-gt1 w ↦ absurd (omega (arith, w.if-open-gt1.true))
      | else-open-gt1 w ↦
          sym (makes_open A d o c.loop-lit.last
          (omega (arith, all, inv.number, w.if-open-gt1.false, c.if-open-eq0.false))
          (inv.last_open ∙ ap (λ x. last_or o (open_literals A x)) whole)
          (sym w.is_true-else-open-gt1.ensures ∙ sym w.value-is ∙ c.if-is_true-2.false))
    ]

pub is_true-requires-else-open-gt1 : goal.is_true-requires-else-open-gt1
is_true-requires-else-open-gt1 c =
    let A = c.args.assumed.now.literals in
    let i = c.loop-lit.lit-index in
    let here : i ≡ length c.args.clause.now =
    omega (arith, c.loop-lit.auto.lit-index-end, c.loop-lit-test.false) in
    c.loop-lit.invariant.within
    (omega (arith, here, c.loop-lit.invariant.number, c.if-open-eq0.false, c.if-open-gt1.false))
