use Rattle.std.proofs.Common.{◌≡◌, ◌+◌, refl, ap, sym, ◌∙◌, subst}
use Rattle.lrat_live.specs.Listed.{without_id, listed_at}
use Rattle.lrat_machine.specs.Rup.{deleted_from}
use Rattle.lrat_machine.specs.Steps.{IsBase, live_of}
use Rattle.lrat_machine.specs.Verdict.{deleted}
use Rattle.std.specs.Prelude.{IsSome}
use Rattle.lrat_machine.proofs.Base.{IsBase-without, deleted_more}
use Rattle.lrat_machine.proofs.Effects.{ids_from}
use Rattle.lrat_machine.proofs.RupLaws.{deleted_next}
use Rattle.lrat_machine.proofs.deletions.delete_all.Goals as goal

pub returns-then-not-delete-clause-base : goal.returns-then-not-delete-clause-base
returns-then-not-delete-clause-base c = λ variables last b.
    subst (IsBase variables last) (sym c.if-not-delete.ensures.left)
    (IsBase-without variables last c.id.result c.loop-hint.live
    (c.loop-hint.invariant.base variables last b))

pub loop-hint-preserved : goal.loop-hint-preserved
loop-hint-preserved c =
    let h = c.hint-item.result in
    let es = c.loop-hint.live in
    let i = c.loop-hint.hint-index in
    let left : c.delete.new.self ≡ without_id h.1 es = c.if-not-delete.ensures.left
    ∙ ap (λ k. without_id k es) c.id.ensures.id in
    let found : IsSome (listed_at es h.1) =
    subst (λ k. IsSome (listed_at es k)) c.id.ensures.id (c.if-not-delete.ensures.found.0 refl) in
    record {
      rest = λ last. c.loop-hint.invariant.rest last
          ∙ deleted_more last es c.args.hints.now i h c.loop-hint-test.true c.hint-item.is found
          ∙ ap (λ xs. deleted (live_of last xs) (ids_from c.args.hints.now (i + 1))) (sym left);
      listed = c.loop-hint.invariant.listed
          ∙ deleted_next es c.args.hints.now i h c.loop-hint-test.true c.hint-item.is found
          ∙ ap (λ xs. deleted_from xs (ids_from c.args.hints.now (i + 1))) (sym left);
      base =
          λ variables last b. subst (IsBase variables last) (sym left)
          (IsBase-without variables last h.1 es (c.loop-hint.invariant.base variables last b));
    }
