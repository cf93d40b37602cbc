-- Stages, one after another.
use Rattle.std.proofs.Common.{◌≡◌, ℕ, zero, suc, ◌+◌, ◌<◌, ◌≤◌, List, [], ◌++◌, length, refl}
use Rattle.std.proofs.Common.{sym, ◌∙◌, ap, subst, arith, append_assoc, append-nil, length-append}
use Rattle.cnf.specs.Literal.{Literal}
use Rattle.totalizer.specs.Stages.{Tree, Leaf, Node, Staged, size_of, outputs_of, stage, stages}
use Rattle.totalizer.specs.Grown.{HasStages}
use Rattle.totalizer.proofs.Laws.{outputs_count, size_positive, stages_has, stages_size}

-- behind what was done before
abbrev pub staged_behind : List (List Literal) → Staged → Staged
staged_behind cs s = record s { clauses = cs ++ s.clauses }

-- the stage behind `count` others
pub stages_more : (count h v : ℕ) (t : Tree)
    → stages (suc count) h v t
    ≡ (let g = stages count h v t in staged_behind g.clauses (stage (h + count) g.fresh g.tree))
stages_more zero h v t =
    let first = stage h v t in
    let same : h ≡ h + zero = omega arith in
    (λ i. record { tree = first.tree; clauses = append-nil first.clauses i; fresh = first.fresh })
    ∙ ap (λ k. staged_behind [] (stage k v t)) same
stages_more (suc count) h v t =
    let first = stage h v t in
    let g = stages count (h + 1) first.fresh first.tree in
    let same : h + 1 + count ≡ h + suc count = omega arith in
    ap (staged_behind first.clauses) (stages_more count (h + 1) first.fresh first.tree)
    ∙ (λ i. record {
      tree = (stage (h + 1 + count) g.fresh g.tree).tree;
      clauses = sym (append_assoc first.clauses g.clauses
          (stage (h + 1 + count) g.fresh g.tree).clauses) i;
      fresh = (stage (h + 1 + count) g.fresh g.tree).fresh;
    })
    ∙ ap (λ k. staged_behind (first.clauses ++ g.clauses) (stage k g.fresh g.tree)) same

-- more stages make more clauses
pub stages_rise : (count more h v : ℕ) (t : Tree)
    → length (stages count h v t).clauses ≤ length (stages (count + more) h v t).clauses
stages_rise zero more h v t = omega arith
stages_rise (suc count) more h v t =
    let first = stage h v t in
    let same : suc (count + more) ≡ suc count + more = omega arith in
    let rest = stages_rise count more (h + 1) first.fresh first.tree in
    subst (λ n. length (stages (suc count) h v t).clauses ≤ length (stages n h v t).clauses) same
    (omega (
      arith,
      rest,
      length-append first.clauses (stages count (h + 1) first.fresh first.tree).clauses,
      length-append first.clauses (stages (count + more) (h + 1) first.fresh first.tree).clauses,
    ))

-- a node has as many outputs as it had stages
pub outputs_stages : (count v : ℕ) (t : Tree) → 1 < size_of t → HasStages 0 t → count ≤ size_of t
    → length (outputs_of (stages count 1 v t).tree) ≡ count
outputs_stages zero v (Leaf l) many bare few = absurd (omega arith)
outputs_stages zero v (Node a b outputs) many bare few = omega (arith, bare.2)
outputs_stages (suc count) v t many bare few =
    outputs_count (suc count) (stages (suc count) 1 v t).tree
    (subst (λ k. HasStages k (stages (suc count) 1 v t).tree) (omega arith)
    (stages_has (suc count) 0 v t bare)) (omega arith)
    (omega (arith, stages_size (suc count) 1 v t))

-- a leaf has no more stages
pub leaf_stages : (v : ℕ) (t : Tree) → size_of t ≡ 1
    → stages 1 1 v t ≡ record { tree = t; clauses = []; fresh = v }
leaf_stages v (Leaf l) one = refl
leaf_stages v (Node a b outputs) one = absurd (omega (arith, size_positive a, size_positive b))

-- how many clauses there are with the next stage
pub next_length : (d v : ℕ) (t now : Tree) (n : ℕ) → now ≡ (stages d 1 v t).tree
    → length (outputs_of now) ≡ d
    → ((w : ℕ) → n ≡ length (stage (length (outputs_of now) + 1) w now).clauses)
    → length (stages (suc d) 1 v t).clauses ≡ length (stages d 1 v t).clauses + n
next_length d v t now n is outs next =
    let g = stages d 1 v t in
    let s = stage (1 + d) g.fresh g.tree in
    let same : length (outputs_of now) + 1 ≡ 1 + d = omega (arith, outs) in
    let count : n ≡ length s.clauses =
    next g.fresh ∙ ap (λ k. length (stage k g.fresh now).clauses) same
    ∙ ap (λ x. length (stage (1 + d) g.fresh x).clauses) is in
    ap (λ x. length x.clauses) (stages_more d 1 v t)
    ∙ omega (arith, length-append g.clauses s.clauses, count)

-- what there is with the next stage
pub next_stage : (d v next : ℕ) (t now : Tree) → now ≡ (stages d 1 v t).tree
    → next ≡ (stages d 1 v t).fresh → length (outputs_of now) ≡ d
    → stages (d + 1) 1 v t
    ≡ staged_behind (stages d 1 v t).clauses (stage (length (outputs_of now) + 1) next now)
next_stage d v next t now is fresh outs =
    let g = stages d 1 v t in
    let more : d + 1 ≡ suc d = omega arith in
    let same : 1 + d ≡ length (outputs_of now) + 1 = omega (arith, outs) in
    ap (λ k. stages k 1 v t) more ∙ stages_more d 1 v t
    ∙ ap (λ k. staged_behind g.clauses (stage k g.fresh g.tree)) same
    ∙ (λ i. staged_behind g.clauses
    (stage (length (outputs_of now) + 1) (sym fresh i) (sym is i)))
