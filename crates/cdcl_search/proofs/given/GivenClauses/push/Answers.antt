use Rattle.std.proofs.Common.{[], ◌∷◌, ◌∙◌, sym}
use Rattle.clauses.proofs.Laws.{zipped-append}
use Rattle.cdcl_search.specs.GivenNumbers.{given_as}
use Rattle.cdcl_search.proofs.GivenList.{length-numbers, numbers-push}
use Rattle.cdcl_search.proofs.given.GivenClauses.push.Goals as goal

pub returns-clause-ok : goal.returns-clause-ok
returns-clause-ok c =
    let many = length-numbers c.self.inside.first c.self.inside.later.items in
    rw (
      ← c.self.view_is,
      c.in_ok-push-2.ensures.items,
      c.in_ok-push.ensures.ok,
      c.in_ok-reserve.ensures.items,
      numbers-push c.self.inside.first c.self.inside.later.items c.args.number,
    ) (zipped-append given_as _ (_ ∷ []) _ (_ ∷ []) (c.self.invariant.0 ∙ sym many))
