-- A clause without literals has no marks.
use Rattle.wcnf.proofs.Gathered.{marked-none}
use Rattle.wcnf.proofs.gathering.Gathering.clear.Goals as goal

pub invariant_of-self : goal.invariant_of-self
invariant_of-self c =
    let s = c.self.inside in
    rw c.clear.ensures.items (marked-none s.vars s.marks c.self.invariant.count)
