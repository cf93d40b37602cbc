use Rattle.std.proofs.Common.{◌<◌, ◌∙◌, length, arith, rules}
use Rattle.std.specs.Prelude.{not, ◌==◌}
use Rattle.propagate_watches.specs.declared.pool.WatchEntry.{WatchEntry}
use Rattle.propagate_watches.specs.Pool.{row_at}
use Rattle.flat_rows.proofs.Laws.{sieved_kept, sieved_left, sieved_all}
use Rattle.propagate_watches.proofs.pool.WatchPool.remove.Goals as goal
use Rattle.propagate_watches.proofs.pool.WatchPool.remove.Goals.{then-ne, else-ne}

pub loop-read-preserved : goal.loop-read-preserved
loop-read-preserved c =
    let p = λ (w : WatchEntry). not (w.reference == c.args.reference) in
    let l = c.loop-read in
    let within : l.read < length (row_at c.args.self.now c.args.row) =
    omega (arith, c.loop-read-test.true, c.len-read-end.ensures) in
    elim c.if-ne.branch [
      | then-ne w ↦ rw (w.self-is, w.write-is, w.set.ensures)
          (sieved_kept p c.args.self.now l.self c.args.row l.write l.read l.invariant
          c.get-entry.result c.requires.row within c.get-entry.ensures (search rules))
      | else-ne w ↦ rw (w.self-is, w.write-is)
          (sieved_left p c.args.self.now l.self c.args.row l.write l.read l.invariant
          c.get-entry.result within c.get-entry.ensures (search rules))
    ]

pub returns : goal.returns
returns c =
    c.truncate.ensures
    ∙ sieved_all (λ (w : WatchEntry). not (w.reference == c.args.reference)) c.args.self.now
    c.loop-read.self c.args.row c.loop-read.write c.loop-read.read c.loop-read.invariant
    (omega (arith, c.loop-read-test.false, c.len-read-end.ensures))
