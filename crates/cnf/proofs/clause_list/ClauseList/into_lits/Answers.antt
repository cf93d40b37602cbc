use Rattle.cnf.proofs.Cutting.{whole_cut}
use Rattle.cnf.proofs.clause_list.ClauseList.into_lits.Goals as goal

pub returns : goal.returns
returns c =
    let s = c.self.inside in
    rw (← c.self.view_is) (whole_cut 0 s.lits.items s.ends.items c.self.invariant.rise)
