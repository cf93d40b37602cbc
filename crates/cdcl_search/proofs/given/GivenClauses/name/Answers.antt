use Rattle.std.proofs.Common.{◌∙◌, ◌<◌, List, ℕ, length, ap, arith, sym}
use Rattle.clauses.proofs.Laws.{length-zipped}
use Rattle.cdcl_search.specs.GivenNumbers.{given_as, numbers_with}
use Rattle.cdcl_search.proofs.GivenList.{listed_name, length-numbers, first_number, later_number}
use Rattle.cdcl_search.proofs.given.GivenClauses.name.Goals as goal
use Rattle.cdcl_search.proofs.given.GivenClauses.name.Goals.{After-self}

within : (c : After-self)
    → c.args.place < length (numbers_with c.self.inside.first c.self.inside.later.items)
within c =
    let ns : List ℕ = numbers_with c.self.inside.first c.self.inside.later.items in
    let many = length-numbers c.self.inside.first c.self.inside.later.items in
    let long =
    length-zipped given_as ns c.self.inside.clauses (c.self.invariant.0 ∙ sym many) in
    let seen = ap length c.self.view_is in
    omega (arith, long, seen, c.requires)

pub returns-then-place-self : goal.returns-then-place-self
returns-then-place-self c =
    let first = c.self.inside.first in
    let later : List ℕ = c.self.inside.later.items in
    rw (← c.self.view_is)
    (listed_name (numbers_with first later) c.self.inside.clauses c.args.place c.new.result
    (c.self.invariant.0 ∙ sym (length-numbers first later))
    (within (goal.at.returns-then-place-self c).After-self)
    (first_number first later c.args.place c.new.result c.if-place-self.true c.new.ensures))

pub index-requires : goal.index-requires
index-requires c =
    let many = length-numbers c.self.inside.first c.self.inside.later.items in
    omega (
      arith,
      within (goal.at.index-requires c).After-self,
      many,
      c.if-place-self.false,
      c.self.inside.later.ok.0,
    )

pub returns : goal.returns
returns c =
    let first = c.self.inside.first in
    let later : List ℕ = c.self.inside.later.items in
    rw (← c.self.view_is)
    (listed_name (numbers_with first later) c.self.inside.clauses c.args.place c.index.result.now
    (c.self.invariant.0 ∙ sym (length-numbers first later))
    (within (goal.at.returns c).After-self)
    (later_number first later c.args.place c.index.result.now c.if-place-self.false
    c.index.ensures))
