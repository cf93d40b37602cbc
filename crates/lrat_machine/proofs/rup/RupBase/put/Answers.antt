use Rattle.std.proofs.Common.{◌≡◌, ◌+◌, arith, rules, sym, subst}
use Rattle.lrat_machine.specs.Steps.{IsBase}
use Rattle.lrat_machine.proofs.Base.{IsBase-more, IsBase-push}
use Rattle.lrat_machine.proofs.rup.RupBase.put.Goals as goal

pub invariant_of-self-2 : goal.invariant_of-self-2
invariant_of-self-2 c =
    let s = c.self.inside in
    let n = c.grow_to.new.assumed.variables in
    let id = c.in_ok-id.id in
    let follows : id ≡ s.last + 1 = search (rules, arith) in
    subst (IsBase n id) (sym c.in_ok-add.ensures.ok)
    (IsBase-push n s.last id s.live c.args.lits.now
    (IsBase-more s.assumed.variables n s.last s.live c.in_ok-grow_to.ensures.more c.self.invariant)
    (omega (arith, follows)) c.in_ok-grow_to.ensures.ok)
