use Rattle.std.proofs.Common.{◌≡◌, ◌+◌, ◌∙◌, true, false, set, replicate, sym, ap, subst, get_or}
use Rattle.std.proofs.Common.{rules}
use Rattle.std.proofs.lemmas.List.{get_or_default}
use Rattle.cdcl_search.specs.Deletions.{AreMarked}
use Rattle.cdcl_search.proofs.Deleting.{marks_none, marks_same, marks_more}
use Rattle.cdcl_search.proofs.search.Search.mark.Goals as goal
use Rattle.cdcl_search.proofs.search.Search.mark.Goals.{then-may_delete, else-may_delete}

pub loop-reference-init : goal.loop-reference-init
loop-reference-init c =
    marks_none c.args.self.now c.args.chosen.now c.in_ok-doomed.doomed.items
    (c.in_ok-doomed.ensures.items_if_clones_equal (search rules)
    ∙ ap (λ n. replicate n false) c.places.ensures)

pub loop-reference-preserved : goal.loop-reference-preserved
loop-reference-preserved c =
    let s = c.args.self.now in
    let l = c.loop-reference in
    let ms = c.args.chosen.now in
    let i = l.reference-index in
    let q = c.reference-item.result in
    let at : get_or ms i 0 ≡ q =
    sym (get_or_default ms i q 0 c.loop-reference-test.true) ∙ sym c.reference-item.is in
    elim c.if-may_delete.branch [
      | then-may_delete w ↦
          let marked =
          marks_more s ms i l.doomed.items q l.invariant
          (c.may_delete.ensures w.if-may_delete.true) at in
          subst (AreMarked s ms (i + 1)) (sym (ap (λ v. v.items) w.doomed-is))
          (subst (λ k. AreMarked s ms (i + 1) (set l.doomed.items k true))
          (sym w.index.ensures) marked)
      | else-may_delete w ↦ subst (λ v. AreMarked s ms (i + 1) v.items) (sym w.doomed-is)
          (marks_same s ms i l.doomed.items l.invariant)
    ]
