use Rattle.std.proofs.Common.{◌∙◌, length, ap, arith, sym}
use Rattle.clauses.proofs.Laws.{length-zipped}
use Rattle.cdcl_search.specs.GivenNumbers.{given_as, numbers_with}
use Rattle.cdcl_search.proofs.GivenList.{listed_clauses, length-numbers}
use Rattle.cdcl_search.proofs.given.GivenClauses.lits.Goals as goal

pub get-requires : goal.get-requires
get-requires c =
    let ns = numbers_with c.self.inside.first c.self.inside.later.items in
    let many = length-numbers c.self.inside.first c.self.inside.later.items in
    let long =
    length-zipped given_as ns c.self.inside.clauses (c.self.invariant.0 ∙ sym many) in
    let seen = ap length c.self.view_is in
    omega (arith, long, seen, many, c.self.invariant.0, c.requires)

pub returns : goal.returns
returns c =
    let many = length-numbers c.self.inside.first c.self.inside.later.items in
    rw (
      ← c.self.view_is,
      listed_clauses (numbers_with c.self.inside.first c.self.inside.later.items)
          c.self.inside.clauses (c.self.invariant.0 ∙ sym many),
    ) c.get.ensures
