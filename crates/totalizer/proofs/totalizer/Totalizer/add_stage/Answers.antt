use Rattle.std.proofs.Common.{◌+◌, ◌≤◌, map, ap, arith}
use Rattle.cnf.specs.declared.limits.TheConstants.{VARIABLE_LIMIT}
use Rattle.totalizer.specs.Stages.{size_of}
use Rattle.totalizer.proofs.Laid.{laid_size}
use Rattle.totalizer.proofs.totalizer.Totalizer.add_stage.Goals as goal

pub add_outputs-requires-clause-room : goal.add_outputs-requires-clause-room
add_outputs-requires-clause-room c =
    let inside = c.self.inside in
    let size =
    laid_size inside.inputs.items (map (λ o. o.items) inside.outputs.items) (omega arith) in
    let same = ap size_of c.self.view_is in
    let room : c.args.fresh + size_of c.args.self.now ≤ VARIABLE_LIMIT + 1 = c.requires.room in
    omega arith
