use Rattle.std.proofs.Common.{arith}
use Rattle.flat_rows.proofs.RowsLaid.{entry_fits, row_there, seen_rows}
use Rattle.flat_rows.proofs.rows.FlatRows.get.Goals as goal

pub index-requires : goal.index-requires
index-requires g c =
    let i = c.self.inside in
    omega (
      arith,
      row_there i.block i.heads.items _ (seen_rows i.block i.heads.items _ c.self.view_is)
          c.args.row c.requires.row,
    )

pub overflow_add-start : goal.overflow_add-start
overflow_add-start g c =
    let i = c.self.inside in
    omega (
      arith,
      entry_fits i.block i.heads.items i.used c.self.invariant _
          (seen_rows i.block i.heads.items _ c.self.view_is) c.args.row
          c.requires.row c.index.result.now c.index.ensures c.args.i c.requires.place,
    )

pub get-requires : goal.get-requires
get-requires g c =
    let i = c.self.inside in
    omega (
      arith,
      entry_fits i.block i.heads.items i.used c.self.invariant _
          (seen_rows i.block i.heads.items _ c.self.view_is) c.args.row
          c.requires.row c.index.result.now c.index.ensures c.args.i c.requires.place,
    )
