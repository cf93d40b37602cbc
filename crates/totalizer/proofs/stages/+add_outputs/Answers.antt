use Rattle.std.proofs.Common.{◌≡◌, ◌+◌, ◌/◌, ◌<◌, ◌∷◌, [], ◌++◌, length, map, ap, sym}
use Rattle.std.proofs.Common.{◌∙◌, arith}
use Rattle.std.proofs.lemmas.List.{append-nil}
use Rattle.std.proofs.lemmas.Result.{IfOk-from_err}
use Rattle.cnf.specs.Literal.{positive}
use Rattle.totalizer.specs.Stages.{Node, stage, sum_clauses, order_clause}
use Rattle.totalizer.specs.Laid.{tree_at}
use Rattle.totalizer.proofs.Laid.{laid_size, tree_halves}
use Rattle.totalizer.proofs.Staging.{stage_takes, stage_small, made, clauses_made}
use Rattle.totalizer.proofs.stages.+add_outputs.Goals as goal

pub add_outputs-requires-2 : goal.add_outputs-requires-2
add_outputs-requires-2 t c =
    let split : length c.in-Some.below.now + 1 ≡ length c.args.outputs.now =
    c.in-Some.ensures.cases.1 in
    let left = c.split_at.result.0.now in
    let lo = c.split_at_mut-left_outputs.result.0.now in
    let takes = stage_takes c.args.at_least c.args.fresh (tree_at left lo) in
    let size = laid_size left (map (λ o. o.items) lo) (omega arith) in
    let next : c.in_ok-fresh.fresh ≡ (stage c.args.at_least c.args.fresh (tree_at left lo)).fresh =
    c.in_ok-fresh.ensures.fresh in
    (omega arith, (omega arith, (omega arith, (omega arith, omega arith))))

pub new-sum-requires-clause-small : goal.new-sum-requires-clause-small
new-sum-requires-clause-small t c =
    let split : length c.in-Some.below.now + 1 ≡ length c.args.outputs.now =
    c.in-Some.ensures.cases.1 in
    let left = c.split_at.result.0.now in
    let lo = c.split_at_mut-left_outputs.result.0.now in
    let right = c.split_at.result.1.now in
    let ro = c.split_at_mut-left_outputs.result.1.now in
    let takes = stage_takes c.args.at_least c.args.fresh (tree_at left lo) in
    let size = laid_size left (map (λ o. o.items) lo) (omega arith) in
    let takes_more = stage_takes c.args.at_least c.in_ok-fresh.fresh (tree_at right ro) in
    let size_more = laid_size right (map (λ o. o.items) ro) (omega arith) in
    let next : c.in_ok-fresh.fresh ≡ (stage c.args.at_least c.args.fresh (tree_at left lo)).fresh =
    c.in_ok-fresh.ensures.fresh in
    let last : c.in_ok-fresh-2.fresh
    ≡ (stage c.args.at_least c.in_ok-fresh.fresh (tree_at right ro)).fresh =
    c.in_ok-fresh-2.ensures.fresh in
    omega arith

pub returns-then-inputs-at_least-clause-tree : goal.returns-then-inputs-at_least-clause-tree
returns-then-inputs-at_least-clause-tree t c =
    let xs = c.args.inputs.now in
    let os = c.args.outputs.now in
    let size = laid_size xs (map (λ o. o.items) os) (omega arith) in
    sym (ap (λ s. s.tree) (stage_small c.args.at_least c.args.fresh (tree_at xs os) (omega arith)))

pub returns-then-inputs-at_least-clause-clauses : goal.returns-then-inputs-at_least-clause-clauses
returns-then-inputs-at_least-clause-clauses t c =
    let xs = c.args.inputs.now in
    let os = c.args.outputs.now in
    let size = laid_size xs (map (λ o. o.items) os) (omega arith) in
    sym (append-nil c.args.clauses.now) ∙ ap (λ k. c.args.clauses.now ++ k)
    (sym (ap (λ s. s.clauses) (stage_small c.args.at_least c.args.fresh (tree_at xs os)
    (omega arith))))

pub returns-then-inputs-at_least-clause-fresh : goal.returns-then-inputs-at_least-clause-fresh
returns-then-inputs-at_least-clause-fresh t c =
    let xs = c.args.inputs.now in
    let os = c.args.outputs.now in
    let size = laid_size xs (map (λ o. o.items) os) (omega arith) in
    sym (ap (λ s. s.fresh) (stage_small c.args.at_least c.args.fresh (tree_at xs os) (omega arith)))

pub returns : goal.returns
returns t c =
    let h = c.args.at_least in
    let v = c.args.fresh in
    let xs = c.args.inputs.now in
    let half = length xs / 2 in
    let left = c.split_at.result.0.now in
    let right = c.split_at.result.1.now in
    let own = c.in-Some.own.now in
    let lo = c.split_at_mut-left_outputs.result.0.now in
    let ro = c.split_at_mut-left_outputs.result.1.now in
    let new_left = c.add_outputs.new.outputs in
    let new_right = c.add_outputs-2.new.outputs in
    let a = tree_at left lo in
    let b = tree_at right ro in
    let f = c.in_ok-fresh.fresh in
    let r = c.in_ok-fresh-2.fresh in
    let split : length c.in-Some.below.now + 1 ≡ length c.args.outputs.now =
    c.in-Some.ensures.cases.1 in
    let long : 1 < length xs = omega arith in
    let size = laid_size left (map (λ o. o.items) lo) (omega arith) in
    let size_more = laid_size right (map (λ o. o.items) ro) (omega arith) in
    let before : tree_at xs c.args.outputs.now ≡ Node a b own.items =
    ap (tree_at xs) (c.in-Some.ensures.cases.0
    ∙ ap (λ below. own ∷ below) c.split_at_mut-left_outputs.ensures.value)
    ∙ tree_halves xs own lo ro long (omega arith)
    ∙ (λ i. Node (tree_at (sym c.split_at.ensures.front i) lo)
    (tree_at (sym c.split_at.ensures.back i) ro) own.items) in
    let items : c.push.new.self.items ≡ own.items ++ positive r ∷ [] =
    c.in_ok-push.ensures.items ∙ ap (λ l. own.items ++ l ∷ []) c.new-sum.ensures in
    let after : tree_at xs (c.push.new.self ∷ (new_left ++ new_right))
    ≡ Node (tree_at left new_left) (tree_at right new_right) (own.items ++ positive r ∷ []) =
    tree_halves xs c.push.new.self new_left new_right long (omega arith)
    ∙ (λ i. Node (tree_at (sym c.split_at.ensures.front i) new_left)
    (tree_at (sym c.split_at.ensures.back i) new_right) (items i)) in
    let built =
    made h v f r a b (tree_at left new_left) (tree_at right new_right) own.items (omega arith)
    c.in_ok-fresh.ensures.tree c.in_ok-fresh.ensures.fresh c.in_ok-fresh-2.ensures.tree
    c.in_ok-fresh-2.ensures.fresh in
    record {
      tree = after ∙ sym (ap (λ s. s.tree) built) ∙ sym (ap (λ t. (stage h v t).tree) before);
      clauses =
          clauses_made h v f r a b (tree_at left new_left) (tree_at right new_right) own.items
          (omega arith) c.in_ok-fresh.ensures.tree c.in_ok-fresh.ensures.fresh
          c.in_ok-fresh-2.ensures.tree c.in_ok-fresh-2.ensures.fresh c.args.clauses.now
          c.add_outputs.new.clauses c.add_outputs-2.new.clauses c.push_sums.new.clauses
          c.push_order.new.clauses c.in_ok-fresh.ensures.clauses c.in_ok-fresh-2.ensures.clauses
          (c.in_ok-push_sums.ensures
          ∙ (λ i. c.add_outputs-2.new.clauses
          ++ sum_clauses (c.outputs_at-left.ensures i) (c.outputs_at-right.ensures i)
          (c.new-sum.ensures i).variable 0 h))
          (c.in_ok-push_order.ensures
          ∙ (λ i. c.push_sums.new.clauses ++ order_clause (c.deref.ensures.value i)
          (c.new-sum.ensures i).variable))
          ∙ ap (λ t. c.args.clauses.now ++ (stage h v t).clauses) (sym before);
      fresh = sym (ap (λ s. s.fresh) built) ∙ sym (ap (λ t. (stage h v t).fresh) before);
    }

pub returns-in_err-fresh-clause-tree : goal.returns-in_err-fresh-clause-tree
returns-in_err-fresh-clause-tree t c =
    IfOk-from_err c.from_residual.result _ c.from_residual.ensures.0

pub returns-in_err-fresh-clause-clauses : goal.returns-in_err-fresh-clause-clauses
returns-in_err-fresh-clause-clauses t c =
    IfOk-from_err c.from_residual.result _ c.from_residual.ensures.0

pub returns-in_err-fresh-clause-fresh : goal.returns-in_err-fresh-clause-fresh
returns-in_err-fresh-clause-fresh t c =
    IfOk-from_err c.from_residual.result _ c.from_residual.ensures.0

pub returns-in_err-fresh-2-clause-tree : goal.returns-in_err-fresh-2-clause-tree
returns-in_err-fresh-2-clause-tree t c =
    IfOk-from_err c.from_residual-in_err-fresh-2.result _ c.from_residual-in_err-fresh-2.ensures.0

pub returns-in_err-fresh-2-clause-clauses : goal.returns-in_err-fresh-2-clause-clauses
returns-in_err-fresh-2-clause-clauses t c =
    IfOk-from_err c.from_residual-in_err-fresh-2.result _ c.from_residual-in_err-fresh-2.ensures.0

pub returns-in_err-fresh-2-clause-fresh : goal.returns-in_err-fresh-2-clause-fresh
returns-in_err-fresh-2-clause-fresh t c =
    IfOk-from_err c.from_residual-in_err-fresh-2.result _ c.from_residual-in_err-fresh-2.ensures.0

pub returns-in_err-push_sums-clause-tree : goal.returns-in_err-push_sums-clause-tree
returns-in_err-push_sums-clause-tree t c =
    IfOk-from_err c.from_residual-in_err-push_sums.result _
    c.from_residual-in_err-push_sums.ensures.0

pub returns-in_err-push_sums-clause-clauses : goal.returns-in_err-push_sums-clause-clauses
returns-in_err-push_sums-clause-clauses t c =
    IfOk-from_err c.from_residual-in_err-push_sums.result _
    c.from_residual-in_err-push_sums.ensures.0

pub returns-in_err-push_sums-clause-fresh : goal.returns-in_err-push_sums-clause-fresh
returns-in_err-push_sums-clause-fresh t c =
    IfOk-from_err c.from_residual-in_err-push_sums.result _
    c.from_residual-in_err-push_sums.ensures.0

pub returns-in_err-push_order-clause-tree : goal.returns-in_err-push_order-clause-tree
returns-in_err-push_order-clause-tree t c =
    IfOk-from_err c.from_residual-in_err-push_order.result _
    c.from_residual-in_err-push_order.ensures.0

pub returns-in_err-push_order-clause-clauses : goal.returns-in_err-push_order-clause-clauses
returns-in_err-push_order-clause-clauses t c =
    IfOk-from_err c.from_residual-in_err-push_order.result _
    c.from_residual-in_err-push_order.ensures.0

pub returns-in_err-push_order-clause-fresh : goal.returns-in_err-push_order-clause-fresh
returns-in_err-push_order-clause-fresh t c =
    IfOk-from_err c.from_residual-in_err-push_order.result _
    c.from_residual-in_err-push_order.ensures.0

pub returns-in_err-push-clause-tree : goal.returns-in_err-push-clause-tree
returns-in_err-push-clause-tree t c =
    IfOk-from_err c.from_residual-in_err-push.result _ c.from_residual-in_err-push.ensures.0

pub returns-in_err-push-clause-clauses : goal.returns-in_err-push-clause-clauses
returns-in_err-push-clause-clauses t c =
    IfOk-from_err c.from_residual-in_err-push.result _ c.from_residual-in_err-push.ensures.0

pub returns-in_err-push-clause-fresh : goal.returns-in_err-push-clause-fresh
returns-in_err-push-clause-fresh t c =
    IfOk-from_err c.from_residual-in_err-push.result _ c.from_residual-in_err-push.ensures.0
