-- The clause lies within the literals.
use Rattle.std.proofs.Common.{length, arith}
use Rattle.cnf.proofs.Cutting.{bounds_at}
use Rattle.cnf.proofs.clause_list.ClausesIterator.next.Goals as goal

pub part-clause-requires : goal.part-clause-requires
part-clause-requires c =
    let some = c.in-len1-up.len_at_least in
    bounds_at c.self.inside.start c.self.inside.ends.now (length c.self.inside.lits.now) 0
    c.self.invariant (omega (arith, some))
