use Rattle.std.proofs.Common.{ap, map, arith}
use Rattle.totalizer.specs.Stages.{size_of}
use Rattle.totalizer.proofs.Laid.{laid_size}
use Rattle.totalizer.proofs.totalizer.Totalizer.size.Goals as goal

pub returns : goal.returns
returns c =
    let inside = c.self.inside in
    let outputs = map (λ o. o.items) inside.outputs.items in
    let size = laid_size inside.inputs.items outputs (omega arith) in
    let same = ap size_of c.self.view_is in
    omega arith
