-- Nothing is true at the start.
use Rattle.std.proofs.Common.{ap, ◌∙◌, length, None}
use Rattle.std.proofs.lemmas.List.{length-replicate}
use Rattle.eliminate.proofs.Assigned.{units_start}
use Rattle.eliminate.proofs.units.Units.new.Goals as goal

pub returns-clause-units : goal.returns-clause-units
returns-clause-units c slots =
    units_start _ c.args.vars slots c.in_ok-values.ensures.none c.in_ok-clauses.ensures
    c.new-trail.ensures.items

pub returns-clause-rows : goal.returns-clause-rows
returns-clause-rows c = ap length c.in_ok-clauses.ensures ∙ length-replicate c.args.vars None
