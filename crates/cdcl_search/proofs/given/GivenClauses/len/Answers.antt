use Rattle.std.proofs.Common.{◌∙◌, List, ℕ, length, ap, arith, sym}
use Rattle.clauses.proofs.Laws.{length-zipped}
use Rattle.cdcl_search.specs.GivenNumbers.{given_as, numbers_with}
use Rattle.cdcl_search.proofs.GivenList.{length-numbers}
use Rattle.cdcl_search.proofs.given.GivenClauses.len.Goals as goal

pub returns-clause-len : goal.returns-clause-len
returns-clause-len c =
    let first = c.self.inside.first in
    let later : List ℕ = c.self.inside.later.items in
    let many = length-numbers first later in
    let long =
    length-zipped given_as (numbers_with first later) c.self.inside.clauses
    (c.self.invariant.0 ∙ sym many) in
    let seen = ap length c.self.view_is in
    omega (arith, long, seen, many, c.self.invariant.0, c.len.ensures)
