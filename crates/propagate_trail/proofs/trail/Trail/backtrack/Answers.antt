use Rattle.std.proofs.Common.{◌≡◌, ◌≤◌, ℕ, List, Option, take, ◌∙◌, ap, sym, subst, arith}
use Rattle.std.proofs.lemmas.List.{take-map}
use Rattle.cnf.specs.Literal.{Literal}
use Rattle.propagate_trail.specs.Trail.{TrailState, Assigned, depth_of, kept_to}
use Rattle.propagate_trail.specs.Tables.{assigned_by, reason_at, IsTrail}
use Rattle.propagate_trail.proofs.Trails.{made}
use Rattle.propagate_trail.proofs.Undoing.{depth_kept, trail_sized}
use Rattle.propagate_trail.proofs.trail.Trail.backtrack.Goals as goal

pub invariant_of-self : goal.invariant_of-self
invariant_of-self c =
    let i = c.self.inside in
    let A = i.literals.items in
    let R = i.vardata.reasons in
    let T = assigned_by R A in
    let keep = c.first_above-keep.result in
    let kept = subst (λ (t : TrailState). kept_to c.args.level t.assigned ≡ take keep t.assigned)
    (sym c.self.view_is) c.first_above-keep.ensures.kept in
    let low = subst (λ (t : TrailState). c.args.level ≤ depth_of t.assigned) (sym c.self.view_is)
    c.requires in
    let e : c.args.level ≡ depth_of (assigned_by R (take keep A)) =
    sym (depth_kept c.args.level T low) ∙ ap depth_of kept
    ∙ ap depth_of (take-map (λ (l : Literal). made l (reason_at R l.variable)) keep A) in
    let t = subst (λ X. IsTrail i.variables (take keep X) c.undo.new.values.items
    c.undo.new.vardata.levels c.undo.new.vardata.positions c.undo.new.vardata.reasons
    (depth_of (assigned_by R (take keep X))) i.variables) c.as_slice.ensures.value
    c.undo.ensures.tables in
    rw c.truncate.ensures.items (trail_sized i.variables (take keep A) _ _ _ _ _ c.args.level _ _ e
    (omega (arith, c.truncate.ensures.capacity, c.self.invariant.has_room)) t)

pub returns : goal.returns
returns c =
    let i = c.self.inside in
    let A = i.literals.items in
    let R = i.vardata.reasons in
    let keep = c.first_above-keep.result in
    let kept = subst (λ (t : TrailState). kept_to c.args.level t.assigned ≡ take keep t.assigned)
    (sym c.self.view_is) c.first_above-keep.ensures.kept in
    ap (λ (r : List (Option ℕ)). record {
      variables = i.variables;
      assigned = assigned_by r c.truncate.new.self.items;
    }) c.undo.ensures.reasons
    ∙ ap (λ X. record { variables = i.variables; assigned = assigned_by R X })
    c.truncate.ensures.items
    ∙ ap (λ (T : List Assigned). record { variables = i.variables; assigned = T })
    (sym (take-map (λ (l : Literal). made l (reason_at R l.variable)) keep A) ∙ sym kept)
    ∙ ap (λ (t : TrailState). record {
      variables = t.variables;
      assigned = kept_to c.args.level t.assigned;
    }) c.self.view_is
