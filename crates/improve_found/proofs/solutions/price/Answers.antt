-- What holds of all assignments with the bits holds of one, and so of the bits that are kept.
use Rattle.std.proofs.Common.{sym, ◌∙◌, subst}
use Rattle.cnf.specs.Bits.{Extends, assignment_of}
use Rattle.cnf.proofs.Laws.{extends_own}
use Rattle.improve_found.proofs.BitLaws.{extends_taken}
use Rattle.improve_found.proofs.solutions.price.Goals as goal

pub prove-unreachable-requires : goal.prove-unreachable-requires
prove-unreachable-requires c =
    let t = assignment_of c.args.bits.items in
    let x = subst (λ bits. Extends bits t) (sym (c.deref.ensures.value ∙ c.truncate.ensures.items))
    (extends_taken c.vars.result c.args.bits.items t (extends_own c.args.bits.items)) in
    let e = (c.if-prove.ensures t x).1 (c.requires.feasible t (extends_own c.args.bits.items)) in
    cc

pub returns-clause-cost : goal.returns-clause-cost
returns-clause-cost c = λ t h.
    let x =
    subst (λ bits. Extends bits t) (sym (c.deref-2.ensures.value ∙ c.truncate.ensures.items))
    (extends_taken c.vars.result c.args.bits.items t h) in
    sym (c.cost-cost.ensures t x)
