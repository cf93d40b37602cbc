use Rattle.std.proofs.Common.{rules}
use Rattle.std.proofs.lemmas.Iterator.{YieldsList-from_slice}
use Rattle.std.proofs.lemmas.Iterator.Search.{any_from_yields_List}
use Rattle.cnf.specs.Bits.{assignment_of}
use Rattle.cnf.specs.Literal.{literal_value}
use borrow.Author.Tests.{tests}
use Rattle.explain.proofs.falsified.is_satisfied.Goals as goal

pub returns : goal.returns
returns c =
    any_from_yields_List (literal_value (assignment_of c.args.bits.now)) _ _ c.any.result
    c.any.ensures.ran (YieldsList-from_slice c.args.clause.now cc)
    (λ x b q k. search (rules, tests))
