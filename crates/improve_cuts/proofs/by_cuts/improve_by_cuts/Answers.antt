-- Nothing is left to pay for the first solution.
use Rattle.std.proofs.Common.{◌∙◌, sym}
use Rattle.improve_found.proofs.Laws.{shown_none}
use Rattle.improve_cuts.proofs.Ends.{finds_nothing}
use Rattle.improve_cuts.proofs.by_cuts.improve_by_cuts.Goals as goal

pub returns-then-left-eq0-clause-shown : goal.returns-then-left-eq0-clause-shown
returns-then-left-eq0-clause-shown g c = shown_none _ _ _

pub returns-then-left-eq0-clause-finds : goal.returns-then-left-eq0-clause-finds
returns-then-left-eq0-clause-finds g c =
    finds_nothing _ _ _ _ _ (sym c.left.ensures.left ∙ c.if-left-eq0.true)
