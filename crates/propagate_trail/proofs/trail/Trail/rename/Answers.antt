use Rattle.std.proofs.Common.{◌∙◌, ap, ℕ, List, Option}
use Rattle.propagate_trail.specs.Tables.{assigned_by}
use Rattle.propagate_trail.specs.Trail.{Assigned, TrailState}
use Rattle.propagate_trail.specs.Renames.{named_trail}
use Rattle.propagate_trail.proofs.Naming.{trail_named, assigned_named}
use Rattle.propagate_trail.proofs.trail.Trail.rename.Goals as goal

pub invariant_of-self : goal.invariant_of-self
invariant_of-self c =
    let i = c.self.inside in
    rw (c.rename.ensures.levels, c.rename.ensures.positions, c.rename.ensures.reasons)
    (trail_named c.args.moves.now i.variables i.literals.items i.values.items i.vardata.levels
    i.vardata.positions i.vardata.reasons i.depth _ _ c.self.invariant.has_room
    c.self.invariant)

pub returns : goal.returns
returns c =
    let i = c.self.inside in
    let ms = c.args.moves.now in
    ap (λ (R : List (Option ℕ)). record {
      variables = i.variables;
      assigned = assigned_by R i.literals.items;
    }) c.rename.ensures.reasons
    ∙ ap (λ (T : List Assigned). record { variables = i.variables; assigned = T })
    (assigned_named ms i.vardata.reasons i.literals.items)
    ∙ ap (λ (t : TrailState). record {
      variables = t.variables;
      assigned = named_trail ms t.assigned;
    }) c.self.view_is
