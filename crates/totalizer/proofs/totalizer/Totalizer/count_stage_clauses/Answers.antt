use Rattle.std.proofs.Common.{◌+◌, ◌<◌, length, map, ap, sym, arith}
use Rattle.totalizer.specs.Stages.{size_of, outputs_of}
use Rattle.totalizer.proofs.Laid.{laid_size}
use Rattle.totalizer.proofs.Staging.{stage_small}
use Rattle.totalizer.proofs.totalizer.Totalizer.count_stage_clauses.Goals as goal

pub returns-then-len-next : goal.returns-then-len-next
returns-then-len-next c = λ v.
    let inside = c.self.inside in
    let next = length (outputs_of c.args.self.now) + 1 in
    let size =
    laid_size inside.inputs.items (map (λ o. o.items) inside.outputs.items) (omega arith) in
    let same = ap size_of c.self.view_is in
    let few : c.len.result < next = rw (← c.outputs.ensures) c.if-len-next.true in
    sym (ap (λ s. length s.clauses) (stage_small next v c.args.self.now (omega arith)))
