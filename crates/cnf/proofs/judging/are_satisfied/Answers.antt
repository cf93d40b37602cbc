use Rattle.std.proofs.Common.{rules}
use Rattle.std.proofs.lemmas.Iterator.Consumers.{YieldsList-from_first}
use Rattle.std.proofs.lemmas.Iterator.Search.{all_from_yields_List}
use Rattle.cnf.specs.Clause.{clause_value}
use borrow.Author.Tests.{tests}
use Rattle.cnf.proofs.judging.are_satisfied.Goals as goal

pub returns : goal.returns
returns c = λ t e. all_from_yields_List (clause_value t) _ _ c.all.result c.all.ensures.ran
    (YieldsList-from_first (λ x. x.now) (λ s. s) c.args.clauses.now cc)
    (λ x b q k. search (rules, tests, e))
