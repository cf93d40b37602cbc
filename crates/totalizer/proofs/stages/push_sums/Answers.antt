use Rattle.std.proofs.Common.{◌≡◌, ◌++◌, ◌+◌, ◌-◌, [], arith, ap, sym}
use Rattle.std.proofs.Common.{◌∙◌, suc}
use Rattle.std.proofs.lemmas.List.{append-nil}
use Rattle.std.proofs.lemmas.Result.{IfOk-from_err}
use Rattle.totalizer.proofs.Sums.{sums_left, skipped, over, right_alone, left_alone, both_sides}
use Rattle.totalizer.proofs.Sums.{sum_pushed}
use Rattle.totalizer.proofs.stages.push_sums.Goals.{then-i-eq0+in_ok-push}
use Rattle.totalizer.proofs.stages.push_sums.Goals.{else-i-eq0+then-j-eq0+in_ok-push-2}
use Rattle.totalizer.proofs.stages.push_sums.Goals.{else-i-eq0+else-j-eq0+in_ok-push-3}
use Rattle.totalizer.proofs.stages.push_sums.Goals as goal

pub loop-i-init : goal.loop-i-init
loop-i-init c =
    let h = c.args.at_least in
    let first = c.saturating_sub-first.result in
    let here : 0 + first ≡ first = omega arith in
    let made =
    skipped c.args.left.now c.args.right.now c.args.sum.variable first 0 (h + 1 - first) (suc h)
    (omega arith) (λ p. omega arith) in
    ap (λ x. c.args.clauses.now ++ x)
    (sym (made ∙ ap (λ a. sums_left c.args.left.now c.args.right.now c.args.sum.variable a
    (h + 1 - first)) here))

pub loop-i-preserved : goal.loop-i-preserved
loop-i-preserved c =
    let left = c.args.left.now in
    let right = c.args.right.now in
    let sum = c.args.sum in
    let plain = c.requires.positive in
    let i = c.loop-i.i in
    let j = c.args.at_least - i in
    let all = c.loop-i.invariant in
    let pushed = sum_pushed left right sum.variable i j in
    let next : c.args.at_least + 1 - (i + 1) ≡ j = omega arith in
    rw next
    (elim c.if-i-eq0.branch [
      | then-i-eq0+in_ok-push w ↦
          pushed _ _ _ _ _ (omega arith)
          (right_alone left right sum plain i j (j - 1) w.index-right-j.result w.negation.result
          (omega arith)
          (omega arith) (omega arith) w.index-right-j.is w.negation.ensures)
          (w.clauses-is ∙ w.in_ok-push.ensures.ok) all
      | else-i-eq0+then-j-eq0+in_ok-push-2 w ↦
          pushed _ _ _ _ _ (omega arith)
          (left_alone left right sum plain i j (i - 1) w.index-left-i.result
          w.negation-then-j-eq0.result
          (omega arith) (omega arith) (omega arith) w.index-left-i.is w.negation-then-j-eq0.ensures)
          (w.clauses-is ∙ w.in_ok-push-2.ensures.ok) all
      | else-i-eq0+else-j-eq0+in_ok-push-3 w ↦
          pushed _ _ _ _ _ (omega arith)
          (both_sides left right sum plain i j (i - 1) (j - 1) w.index-left-i-else-j-eq0.result
          w.index-right-j-else-j-eq0.result w.negation-else-j-eq0.result
          w.negation-else-j-eq0-2.result
          (omega arith) (omega arith) (omega arith) (omega arith) w.index-left-i-else-j-eq0.is
          w.index-right-j-else-j-eq0.is w.negation-else-j-eq0.ensures
          w.negation-else-j-eq0-2.ensures)
          (w.clauses-is ∙ w.in_ok-push-3.ensures.ok) all
    ])

pub returns : goal.returns
returns c =
    let n = c.args.at_least + 1 - c.loop-i.i in
    let left = c.args.left.now in
    let right = c.args.right.now in
    let v = c.args.sum.variable in
    let none : sums_left left right v c.loop-i.i n ≡ [] = over left right v n c.loop-i.i
    (λ p. omega arith) in
    sym (append-nil c.loop-i.clauses) ∙ ap (λ x. c.loop-i.clauses ++ x) (sym none)
    ∙ c.loop-i.invariant

pub returns-in_err-push : goal.returns-in_err-push
returns-in_err-push c = IfOk-from_err c.from_residual.result _ c.from_residual.ensures.0

pub returns-in_err-push-2 : goal.returns-in_err-push-2
returns-in_err-push-2 c =
    IfOk-from_err c.from_residual-in_err-push-2.result _ c.from_residual-in_err-push-2.ensures.0

pub returns-in_err-push-3 : goal.returns-in_err-push-3
returns-in_err-push-3 c =
    IfOk-from_err c.from_residual-in_err-push-3.result _ c.from_residual-in_err-push-3.ensures.0
