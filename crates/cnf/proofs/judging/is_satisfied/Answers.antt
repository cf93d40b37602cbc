use Rattle.std.proofs.Common.{rules}
use Rattle.std.proofs.lemmas.Iterator.{YieldsList-from_slice}
use Rattle.std.proofs.lemmas.Iterator.Search.{any_from_yields_List}
use Rattle.cnf.specs.Literal.{literal_value}
use borrow.Author.Tests.{tests}
use Rattle.cnf.proofs.judging.is_satisfied.Goals as goal

pub returns : goal.returns
returns c = λ t e. any_from_yields_List (literal_value t) _ _ c.any.result c.any.ensures.ran
    (YieldsList-from_slice c.args.clause.now cc) (λ x b q k. search (rules, tests, e))
