use Rattle.lrat_machine.proofs.rup.RupBase.delete.Goals as goal

pub invariant_of-self : goal.invariant_of-self
invariant_of-self c =
    let s = c.self.inside in
    c.delete_all.ensures.base s.assumed.variables s.last c.self.invariant
