use Rattle.std.proofs.Common.{◌≡◌, false, List, None, ◌∙◌, ap, arith, rules}
use Rattle.propagate_trail.specs.Trail.{TrailState, Assigned, value_in, IsVariable}
use Rattle.propagate_trail.specs.Tables.{assigned_by, mentions}
use Rattle.propagate_trail.proofs.Trails.{open_none, literals_of-assigned}
use Rattle.propagate_trail.proofs.Tables.{trail_push_at, assigned_push, room_left, one_from}
use Rattle.propagate_trail.proofs.trail.Trail.push.Goals as goal

pub push_reserved-requires : goal.push_reserved-requires
push_reserved-requires c =
    let i = c.self.inside in
    let h : value_in (assigned_by i.vardata.reasons i.literals.items) c.args.lit ≡ None =
    ap (λ (t : TrailState). value_in t.assigned c.args.lit) c.self.view_is ∙ c.requires.open in
    let n : IsVariable i.variables c.args.lit = (omega arith, search rules) in
    omega (
      arith,
      c.self.invariant.has_room,
      room_left i.variables i.literals.items i.values.items i.vardata.levels i.vardata.positions
          i.vardata.reasons i.depth _ c.args.lit c.self.invariant n h,
    )

pub invariant_of-self : goal.invariant_of-self
invariant_of-self c =
    let i = c.self.inside in
    let h : value_in (assigned_by i.vardata.reasons i.literals.items) c.args.lit ≡ None =
    ap (λ (t : TrailState). value_in t.assigned c.args.lit) c.self.view_is ∙ c.requires.open in
    let n : IsVariable i.variables c.args.lit = (omega arith, search rules) in
    rw (c.set.ensures.levels, c.set.ensures.positions, c.set.ensures.reasons)
    (trail_push_at i.variables i.literals.items i.values.items i.vardata.levels i.vardata.positions
    i.vardata.reasons i.depth _ _ c.args.lit c.args.reason _ _ _ _ _
    c.push_reserved.ensures.items c.set_value.ensures c.variable-variable.ensures.variable
    (omega (arith, c.len-position.ensures))
    (one_from c.args.reason c.is_none.result c.from.result c.is_none.ensures c.from.ensures)
    (omega arith) c.self.invariant n h)

pub returns-clause-pushed : goal.returns-clause-pushed
returns-clause-pushed c =
    let i = c.self.inside in
    let h : value_in (assigned_by i.vardata.reasons i.literals.items) c.args.lit ≡ None =
    ap (λ (t : TrailState). value_in t.assigned c.args.lit) c.self.view_is ∙ c.requires.open in
    let n : IsVariable i.variables c.args.lit = (omega arith, search rules) in
    let new : mentions c.args.lit.variable i.literals.items ≡ false =
    rw literals_of-assigned at
    (open_none (assigned_by i.vardata.reasons i.literals.items) c.args.lit h) in
    rw (
      ← c.self.view_is,
      c.push_reserved.ensures.items,
      c.set.ensures.reasons,
      c.variable-variable.ensures.variable,
    )
    (ap (λ (T : List Assigned). record { variables = i.variables; assigned = T })
    (assigned_push i.vardata.reasons i.literals.items c.args.lit c.args.reason
    (omega (arith, c.self.invariant.reasons_length)) new))
