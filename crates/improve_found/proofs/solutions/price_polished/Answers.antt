-- What is made cheaper is a solution.
use Rattle.improve_found.proofs.solutions.price_polished.Goals as goal

pub polish-polished-requires-clause-feasible : goal.polish-polished-requires-clause-feasible
polish-polished-requires-clause-feasible c = λ t h. (c.price-first.ensures.solution.1 t h).0
