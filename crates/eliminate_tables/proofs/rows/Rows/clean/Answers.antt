-- One row keeps what is live.
use Rattle.std.proofs.Common.{◌<◌, ◌∙◌, length, arith, rules}
use Rattle.eliminate_tables.specs.Rows.{row_at, has_clause}
use Rattle.flat_rows.proofs.Laws.{sieved_kept, sieved_left, sieved_all}
use Rattle.eliminate_tables.proofs.rows.Rows.clean.Goals as goal
use Rattle.eliminate_tables.proofs.rows.Rows.clean.Goals.{then-has_clause, else-has_clause}

pub loop-read-preserved : goal.loop-read-preserved
loop-read-preserved c =
    let p = has_clause c.args.store.now.slots in
    let l = c.loop-read in
    let within : l.read < length (row_at c.args.self.now.rows c.args.row) =
    omega (arith, c.loop-read-test.true, c.len-read-end.ensures) in
    elim c.if-has_clause.branch [
      | then-has_clause w ↦
          record {
            sieved = rw (w.self-is, w.write-is, w.set.ensures.rows, c.self.view_is)
                (sieved_kept p c.args.self.now.rows l.self.rows c.args.row l.write l.read
                l.invariant.sieved c.get-reference.result c.requires within
                c.get-reference.ensures (search rules));
            rooms = rw (w.self-is, w.set.ensures.rooms, c.self.view_is) l.invariant.rooms;
          }
      | else-has_clause w ↦ record {
        sieved = rw (w.self-is, w.write-is)
            (sieved_left p c.args.self.now.rows l.self.rows c.args.row l.write l.read
            l.invariant.sieved c.get-reference.result within c.get-reference.ensures
            (search rules));
        rooms = rw w.self-is l.invariant.rooms;
      }
    ]

pub returns-clause-rows : goal.returns-clause-rows
returns-clause-rows c =
    rw (← c.self-2.view_is) c.truncate.ensures.rows
    ∙ sieved_all (has_clause c.args.store.now.slots) c.args.self.now.rows c.loop-read.self.rows
    c.args.row c.loop-read.write c.loop-read.read c.loop-read.invariant.sieved
    (omega (arith, c.loop-read-test.false, c.len-read-end.ensures))
