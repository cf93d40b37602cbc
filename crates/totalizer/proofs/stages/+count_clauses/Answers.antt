use Rattle.std.proofs.Common.{◌≡◌, ◌+◌, ◌*◌, ◌≤◌, ◌<◌, ◌∷◌, ◌∙◌, ap, sym, arith, length, map, ◌^◌}
use Rattle.totalizer.specs.Stages.{Node, stage, order_clause}
use Rattle.totalizer.specs.Laid.{tree_at}
use Rattle.totalizer.proofs.Laid.{laid_size, tree_halves}
use Rattle.totalizer.proofs.Staging.{stage_small}
use Rattle.totalizer.proofs.Counting.{count_node}
use Rattle.totalizer.proofs.stages.+count_clauses.Goals as goal

pub returns-then-inputs-at_least-clause-count : goal.returns-then-inputs-at_least-clause-count
returns-then-inputs-at_least-clause-count t c = λ v.
    let xs = c.args.inputs.now in
    let os = c.args.outputs.now in
    let size = laid_size xs (map (λ o. o.items) os) (omega arith) in
    sym (ap (λ s. length s.clauses) (stage_small c.args.at_least v (tree_at xs os) (omega arith)))

pub overflow_add-before : goal.overflow_add-before
overflow_add-before t c =
    let k = c.args.at_least + 2 in
    let left = c.split_at.result.0.now in
    let right = c.split_at.result.1.now in
    let parts : length left + length right ≡ length c.args.inputs.now = omega arith in
    let scale = ap (λ n. n * k) parts in
    let one : c.count_clauses.result + k ≤ length left * k = c.count_clauses.ensures.few in
    let two : c.count_clauses-2.result + k ≤ length right * k = c.count_clauses-2.ensures.few in
    let room : length c.args.inputs.now * k < 2 ^ 64 = c.requires.room in
    omega arith

pub count_sums-requires : goal.count_sums-requires
count_sums-requires t c =
    let k = c.args.at_least + 2 in
    let left = c.split_at.result.0.now in
    let right = c.split_at.result.1.now in
    let parts : length left + length right ≡ length c.args.inputs.now = omega arith in
    let scale = ap (λ n. n * k) parts in
    let one : c.count_clauses.result + k ≤ length left * k = c.count_clauses.ensures.few in
    let two : c.count_clauses-2.result + k ≤ length right * k = c.count_clauses-2.ensures.few in
    let room : length c.args.inputs.now * k < 2 ^ 64 = c.requires.room in
    omega arith

pub overflow_add-result : goal.overflow_add-result
overflow_add-result t c =
    let k = c.args.at_least + 2 in
    let left = c.split_at.result.0.now in
    let right = c.split_at.result.1.now in
    let parts : length left + length right ≡ length c.args.inputs.now = omega arith in
    let scale = ap (λ n. n * k) parts in
    let one : c.count_clauses.result + k ≤ length left * k = c.count_clauses.ensures.few in
    let two : c.count_clauses-2.result + k ≤ length right * k = c.count_clauses-2.ensures.few in
    let room : length c.args.inputs.now * k < 2 ^ 64 = c.requires.room in
    omega arith

pub overflow_add-result-2 : goal.overflow_add-result-2
overflow_add-result-2 t c =
    let k = c.args.at_least + 2 in
    let left = c.split_at.result.0.now in
    let right = c.split_at.result.1.now in
    let parts : length left + length right ≡ length c.args.inputs.now = omega arith in
    let scale = ap (λ n. n * k) parts in
    let one : c.count_clauses.result + k ≤ length left * k = c.count_clauses.ensures.few in
    let two : c.count_clauses-2.result + k ≤ length right * k = c.count_clauses-2.ensures.few in
    let room : length c.args.inputs.now * k < 2 ^ 64 = c.requires.room in
    omega arith

pub returns-clause-few : goal.returns-clause-few
returns-clause-few t c =
    let k = c.args.at_least + 2 in
    let left = c.split_at.result.0.now in
    let right = c.split_at.result.1.now in
    let parts : length left + length right ≡ length c.args.inputs.now = omega arith in
    let scale = ap (λ n. n * k) parts in
    let one : c.count_clauses.result + k ≤ length left * k = c.count_clauses.ensures.few in
    let two : c.count_clauses-2.result + k ≤ length right * k = c.count_clauses-2.ensures.few in
    omega arith

pub returns-clause-count : goal.returns-clause-count
returns-clause-count t c = λ v.
    let h = c.args.at_least in
    let xs = c.args.inputs.now in
    let left = c.split_at.result.0.now in
    let right = c.split_at.result.1.now in
    let own = c.in-Some.own.now in
    let lo = c.split_at-2.result.0.now in
    let ro = c.split_at-2.result.1.now in
    let a = tree_at left lo in
    let b = tree_at right ro in
    let split : length c.in-Some.below.now + 1 ≡ length c.args.outputs.now =
    c.in-Some.ensures.cases.1 in
    let long : 1 < length xs = omega arith in
    let size = laid_size left (map (λ o. o.items) lo) (omega arith) in
    let size_more = laid_size right (map (λ o. o.items) ro) (omega arith) in
    let before : tree_at xs c.args.outputs.now ≡ Node a b own.items =
    ap (tree_at xs) (c.in-Some.ensures.cases.0
    ∙ ap (λ below. own ∷ below) c.split_at-2.ensures.by_index.0)
    ∙ tree_halves xs own lo ro long (omega arith)
    ∙ (λ i. Node (tree_at (sym c.split_at.ensures.front i) lo)
    (tree_at (sym c.split_at.ensures.back i) ro) own.items) in
    count_node h v _ _ _ _ _ _ a b own.items (omega arith) c.count_clauses.ensures.count
    c.count_clauses-2.ensures.count c.count_outputs-left.ensures c.count_outputs-right.ensures
    c.count_sums.ensures
    (λ r. c.count_order.ensures.count r
    ∙ ap (λ os. length (order_clause os r)) c.deref.ensures.value)
    ∙ ap (λ t. length (stage h v t).clauses) (sym before)
