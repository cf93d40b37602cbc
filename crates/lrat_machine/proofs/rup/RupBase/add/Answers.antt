use Rattle.std.proofs.Common.{◌≡◌, ◌++◌, ◌∷◌, [], None, ap, sym, ◌∙◌, subst, rules}
use Rattle.lrat_machine.specs.Steps.{IsBase}
use Rattle.lrat_machine.proofs.Base.{IsBase-more, IsBase-push}
use Rattle.lrat_machine.proofs.rup.RupBase.add.Goals as goal

pub invariant_of-self-then-is_none : goal.invariant_of-self-then-is_none
invariant_of-self-then-is_none c =
    let line = c.args.line.now in
    let s = c.self.inside in
    let n = c.line_fault.new.assumed.variables in
    let fine : c.in_ok-fault.fault ≡ None = search rules in
    let live : c.add.new.self ≡ s.live ++ (line.id, line.clause) ∷ [] =
    c.in_ok-add.ensures.ok
    ∙ ap (λ k. s.live ++ (k, c.lits.result.now) ∷ []) c.id.ensures.id
    ∙ ap (λ d. s.live ++ (line.id, d) ∷ []) c.lits.ensures in
    subst (λ k. IsBase n k c.add.new.self) (sym c.id-self-inside.ensures.id)
    (subst (IsBase n line.id) (sym live)
    (IsBase-push n s.last line.id s.live line.clause
    (IsBase-more s.assumed.variables n s.last s.live c.in_ok-fault.ensures.more c.self.invariant)
    (c.in_ok-fault.ensures.rising fine) (c.in_ok-fault.ensures.within fine)))
