use Rattle.std.proofs.Common.{◌∙◌, ap, sym}
use Rattle.propagate_trail.specs.Trail.{TrailState, reason_in}
use Rattle.propagate_trail.specs.Tables.{assigned_by}
use Rattle.propagate_trail.proofs.Trails.{literals_of-assigned, reason-assigned, reason_none}
use Rattle.propagate_trail.proofs.Trails.{mentioned, unmentioned}
use Rattle.propagate_trail.proofs.trail.Trail.reason.Goals as goal

pub returns-in-Some : goal.returns-in-Some
returns-in-Some c =
    let i = c.self.inside in
    let T = assigned_by i.vardata.reasons i.literals.items in
    let h =
    mentioned T c.args.variable c.in-Some.field-0 (sym (c.self.invariant.level_of c.args.variable)
    ∙ sym c.level.ensures ∙ c.in-Some.is) in
    c.reason.ensures
    ∙ sym (reason-assigned i.vardata.reasons i.literals.items c.args.variable
    (rw literals_of-assigned at h))
    ∙ ap (λ (t : TrailState). reason_in t.assigned c.args.variable) c.self.view_is

pub returns-in-None : goal.returns-in-None
returns-in-None c =
    let i = c.self.inside in
    let T = assigned_by i.vardata.reasons i.literals.items in
    let h = unmentioned T c.args.variable (sym (c.self.invariant.level_of c.args.variable)
    ∙ sym c.level.ensures ∙ c.in-None.is) in
    sym (reason_none T c.args.variable h)
    ∙ ap (λ (t : TrailState). reason_in t.assigned c.args.variable) c.self.view_is
