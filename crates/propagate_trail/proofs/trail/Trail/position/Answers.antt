use Rattle.std.proofs.Common.{Some, ◌∙◌, ap, sym}
use Rattle.propagate_trail.specs.Trail.{TrailState, position_in}
use Rattle.propagate_trail.specs.Tables.{assigned_by}
use Rattle.propagate_trail.proofs.Trails.{literals_of-assigned, mentioned, unmentioned}
use Rattle.propagate_trail.proofs.Tables.{position_known, position_none}
use Rattle.propagate_trail.proofs.trail.Trail.position.Goals as goal

pub returns-in-Some : goal.returns-in-Some
returns-in-Some c =
    let i = c.self.inside in
    let T = assigned_by i.vardata.reasons i.literals.items in
    let h =
    mentioned T c.args.variable c.in-Some.field-0 (sym (c.self.invariant.level_of c.args.variable)
    ∙ sym c.level.ensures ∙ c.in-Some.is) in
    ap Some c.position.ensures
    ∙ sym (position_known i.vardata.positions i.vardata.reasons i.literals.items c.args.variable
    c.self.invariant.position_of (rw literals_of-assigned at h))
    ∙ ap (λ (t : TrailState). position_in t.assigned c.args.variable) c.self.view_is

pub returns-in-None : goal.returns-in-None
returns-in-None c =
    let i = c.self.inside in
    let T = assigned_by i.vardata.reasons i.literals.items in
    let h = unmentioned T c.args.variable (sym (c.self.invariant.level_of c.args.variable)
    ∙ sym c.level.ensures ∙ c.in-None.is) in
    sym (position_none 0 T c.args.variable h)
    ∙ ap (λ (t : TrailState). position_in t.assigned c.args.variable) c.self.view_is
