-- The literal was added exactly where it was not there.
use Rattle.std.proofs.Common.{◌≡◌, ◌++◌, ◌∷◌, [], if◌then◌else◌, rules, sym, ap, ◌∙◌}
use Rattle.cnf.specs.Clause.{contains_literal}
use Rattle.bound.proofs.Kept.{distinct_same_step}
use Rattle.bound.proofs.kept_clauses.distinct.Goals as goal
use Rattle.bound.proofs.kept_clauses.distinct.Goals.{then-not-contains+in_ok-push}
use Rattle.bound.proofs.kept_clauses.distinct.Goals.{else-not-contains}

pub loop-lit-preserved : goal.loop-lit-preserved
loop-lit-preserved c =
    let l = c.lit-item.result in
    let once = c.loop-lit.once.items in
    let b : c.contains.result ≡ contains_literal l once = search rules in
    let step = distinct_same_step once c.args.lits.now c.loop-lit.lit-index l c.contains.result
    (search rules) c.lit-item.is c.loop-lit.invariant b in
    elim c.if-not-contains.branch [
      | then-not-contains+in_ok-push w ↦
          let pushed : c.if-not-contains.once.items ≡ once ++ l ∷ [] =
          cc (w.in_ok-push.ensures.items, w.once-is) in
          pushed ∙ sym (step ∙ ap (λ x. if x then once else once ++ l ∷ []) w.if-not-contains.true)
      | else-not-contains w ↦
          let same : c.if-not-contains.once.items ≡ once = cc (w.once-is) in
          same ∙ sym (step ∙ ap (λ x. if x then once else once ++ l ∷ []) w.if-not-contains.false)
    ]
