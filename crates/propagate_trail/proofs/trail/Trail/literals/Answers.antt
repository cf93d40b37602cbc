use Rattle.std.proofs.Common.{◌∙◌, ap, sym}
use Rattle.propagate_trail.specs.Trail.{TrailState, literals_of}
use Rattle.propagate_trail.proofs.Trails.{literals_of-assigned}
use Rattle.propagate_trail.proofs.trail.Trail.literals.Goals as goal

pub returns-clause-literals : goal.returns-clause-literals
returns-clause-literals c =
    c.deref.ensures.value
    ∙ sym (literals_of-assigned c.self.inside.vardata.reasons c.self.inside.literals.items)
    ∙ ap (λ (t : TrailState). literals_of t.assigned) c.self.view_is
