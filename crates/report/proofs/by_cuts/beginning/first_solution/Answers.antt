-- Bits that are a solution cost what they are priced at.
use Rattle.std.proofs.Common.{◌≡◌, ℕ, subst, sym}
use Rattle.std.specs.Prelude.{IfSome}
use Rattle.improve_found.specs.Solutions.{IsSolution}
use Rattle.report.proofs.Dearer.{same_cost}
use Rattle.report.proofs.by_cuts.beginning.first_solution.Goals as goal

pub returns-then-is_solution-clause-cost : goal.returns-then-is_solution-clause-cost
returns-then-is_solution-clause-cost c =
    let p = c.args.instance.now in
    let priced = c.price.result.cost in
    subst (λ o. IfSome o (λ bits. (cost : ℕ) → IsSolution p bits.items cost → priced ≡ cost))
    (sym c.in-Some.is)
    (λ cost s. same_cost p c.in-Some.bits.items cost priced s c.price.ensures.cost)

pub returns-else-is_solution-clause-cost : goal.returns-else-is_solution-clause-cost
returns-else-is_solution-clause-cost c =
    let p = c.args.instance.now in
    subst (λ o. IfSome o (λ bits. (cost : ℕ) → IsSolution p bits.items cost → ⊥))
    (sym c.in-Some.is)
    (λ cost s. c.is_solution.ensures.no c.if-is_solution.false cost
    (subst (λ b. IsSolution p b cost) (sym c.deref.ensures.value) s))
