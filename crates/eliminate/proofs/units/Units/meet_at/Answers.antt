-- The clause at the place is met.
use Rattle.std.proofs.Common.{◌∙◌, ap}
use Rattle.clauses.specs.Slots.{clause_at}
use Rattle.eliminate.proofs.units.Units.meet_at.Goals as goal

pub returns-in_ok-found-in-Some-clause-settled : goal.returns-in_ok-found-in-Some-clause-settled
returns-in_ok-found-in-Some-clause-settled g c unasked =
    let w = c.in_ok-found-in-Some.ensures.settled unasked in (
      w.0,
      w.1,
      w.2,
      λ d at. w.3 d (ap (clause_at c.args.store.now.slots) c.in-Some.ensures.live.0
          ∙ at),
    )
