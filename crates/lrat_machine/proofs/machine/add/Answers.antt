use Rattle.std.proofs.Common.{◌≡◌, ◌++◌, ◌∷◌, [], None, ap, sym, ◌∙◌, subst, rules}
use Rattle.lrat_machine.specs.Steps.{IsBase}
use Rattle.lrat_machine.proofs.Base.{IsBase-more, IsBase-push}
use Rattle.lrat_machine.proofs.machine.add.Goals as goal

pub returns-in_ok-add-clause-base : goal.returns-in_ok-add-clause-base
returns-in_ok-add-clause-base c =
    let s = c.args.line.now in
    let b = c.args.base.now in
    let n = c.addition_fault.new.scratch.assumed.variables in
    let fine : c.in_ok-fault.fault ≡ None = search rules in
    let live : c.add.new.self ≡ b.live ++ (s.id, s.clause) ∷ [] =
    c.in_ok-add.ensures.ok
    ∙ ap (λ x. x.live ++ (c.id.result, c.lits.result.now) ∷ []) c.in_ok-fault.ensures.unchanged
    ∙ ap (λ k. b.live ++ (k, c.lits.result.now) ∷ []) c.id.ensures.id
    ∙ ap (λ d. b.live ++ (s.id, d) ∷ []) c.lits.ensures in
    subst (λ k. IsBase n k c.add.new.self) (sym c.id-base.ensures.id)
    (subst (IsBase n s.id) (sym live)
    (IsBase-push n b.last s.id b.live s.clause
    (IsBase-more c.args.scratch.now.assumed.variables n b.last b.live c.in_ok-fault.ensures.more
    c.requires) (c.in_ok-fault.ensures.rising fine) (c.in_ok-fault.ensures.within fine)))
