use Rattle.std.proofs.Common.{arith}
use Rattle.propagate.proofs.Laws.{have_places}
use Rattle.cdcl_search.proofs.subsets.Subsets.find.Goals as goal

pub mark_all-requires : goal.mark_all-requires
mark_all-requires c =
    have_places c.args.engine.now.variables _ c.args.lits.now
    (let room = c.in_ok-make_room.ensures in let n = c.variables.ensures in omega arith)
    c.requires.within

pub returns-clause-none : goal.returns-clause-none
returns-clause-none c = λ e r d at.
    c.has_subset.ensures.none e r d (c.requires.attached r (d, at)) at
