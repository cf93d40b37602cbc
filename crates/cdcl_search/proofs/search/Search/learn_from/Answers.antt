use Rattle.std.proofs.Common.{◌≤◌, sym, subst}
use Rattle.std.specs.Prelude.{All}
use Rattle.cnf.specs.Literal.{Literal}
use Rattle.propagate.proofs.Laws.{within_all}
use Rattle.cdcl_search.proofs.search.Search.learn_from.Goals as goal

pub learn_from-requires-clause-within : goal.learn_from-requires-clause-within
learn_from-requires-clause-within c =
    let variables = c.args.self.now.engine.variables in
    subst (All (λ (l : Literal). l.variable ≤ variables)) (sym c.as_slice-2.ensures.value)
    (within_all variables c.args.learned.now.lits.items c.requires.within.1)
