-- The literal is marked, and goes to the end of the trail.
use Rattle.std.proofs.Common.{◌-◌, ◌∙◌, ap, arith, set}
use Rattle.std.specs.Vec.{with_item}
use Rattle.eliminate.specs.declared.units.Units.{Units}
use Rattle.eliminate.proofs.Assigned.{makes_true, less_open}
use Rattle.eliminate.proofs.units.Units.assign.Goals as goal

pub index_mut-requires : goal.index_mut-requires
index_mut-requires c =
    let row = c.requires.place in
    let rows = c.requires.units.places in
    omega (arith, row.0, row.1, rows, c.variable.ensures.variable, c.args.self.now.clauses.ok.0)

pub returns-clause-units : goal.returns-clause-units
returns-clause-units c =
    makes_true c.args.self.now _ c.args.store.now.slots c.args.lit c.args.unit c.requires.units
    c.requires.place c.requires.not_true c.requires.not_false c.requires.alone (record {
      values = c.mark.ensures;
      clauses =
          ap (λ n. set c.args.self.now.clauses.items (n - 1) c.new.result)
          c.variable.ensures.variable
          ∙ ap (set c.args.self.now.clauses.items (c.args.lit.variable - 1)) c.new.ensures;
      trail = c.in_ok-push.ensures.items;
    })

pub returns-clause-progress : goal.returns-clause-progress
returns-clause-progress c =
    let v : Units =
    record c.args.self.now {
      values = c.mark.new.self;
      clauses = with_item c.args.self.now.clauses (c.variable.result - 1) c.new.result;
      trail = c.push.new.self;
    } in
    less_open c.args.self.now v c.args.store.now.slots c.args.lit c.args.unit c.requires.units
    c.requires.place c.requires.not_true c.requires.not_false c.requires.alone (record {
      values = c.mark.ensures;
      clauses =
          ap (λ n. set c.args.self.now.clauses.items (n - 1) c.new.result)
          c.variable.ensures.variable
          ∙ ap (set c.args.self.now.clauses.items (c.args.lit.variable - 1)) c.new.ensures;
      trail = c.in_ok-push.ensures.items;
    })
