-- The clauses of a formula have the numbers from 1 on.
use Rattle.cdcl_search.proofs.GivenList.{given_first}
use Rattle.cdcl_search.proofs.given.GivenClauses.of.Goals as goal

pub returns-clause-ok : goal.returns-clause-ok
returns-clause-ok c = rw (c.new.ensures.items, c.len-first.ensures) (given_first c.args.clauses)
