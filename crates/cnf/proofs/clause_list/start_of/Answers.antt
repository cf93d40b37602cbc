use Rattle.cnf.proofs.Cutting.{start-before}
use Rattle.cnf.proofs.clause_list.start_of.Goals as goal

pub returns-else-place-eq0 : goal.returns-else-place-eq0
returns-else-place-eq0 c = start-before c.args.ends.now c.args.place c.if-place-eq0.false c.requires
