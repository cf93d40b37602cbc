use Rattle.std.proofs.Common.{◌≡◌, ◌<◌, length, get_or, arith}
use Rattle.flat_rows.specs.RowLayout.{no_head}
use Rattle.flat_rows.proofs.RowsLaid.{entry_fits, head_read, long_row, row_there, rows_set}
use Rattle.flat_rows.proofs.RowsLaid.{seen_rooms, seen_rows}
use Rattle.flat_rows.proofs.rows.FlatRows.set.Goals as goal

pub returns-clause-rows : goal.returns-clause-rows
returns-clause-rows g c =
    let i = c.self.inside in let laid = c.self.invariant in
    let seen = seen_rows i.block i.heads.items _ c.self.view_is in
    let li : c.args.row < length i.heads.items =
    row_there i.block i.heads.items _ seen c.args.row c.requires.row in
    let is : c.index.result.now ≡ get_or i.heads.items c.args.row no_head =
    head_read i.block i.heads.items _ seen c.args.row c.requires.row c.index.result.now
    c.index.ensures in
    let lk : c.args.i < (get_or i.heads.items c.args.row no_head).length =
    omega (
      arith,
      long_row i.block i.heads.items i.used laid _ seen c.args.row c.requires.row,
      c.requires.place,
    ) in
    rw (c.set.ensures, is, ← seen)
    (rows_set i.block i.heads.items i.used laid c.args.row c.args.i c.args.entry li lk)

pub returns-clause-rooms : goal.returns-clause-rooms
returns-clause-rooms g c =
    let i = c.self.inside in seen_rooms i.block i.heads.items _ c.self.view_is

pub index-requires : goal.index-requires
index-requires g c =
    let i = c.self.inside in
    omega (
      arith,
      row_there i.block i.heads.items _ (seen_rows i.block i.heads.items _ c.self.view_is)
          c.args.row c.requires.row,
    )

pub overflow_add-start : goal.overflow_add-start
overflow_add-start g c =
    let i = c.self.inside in
    omega (
      arith,
      entry_fits i.block i.heads.items i.used c.self.invariant _
          (seen_rows i.block i.heads.items _ c.self.view_is) c.args.row
          c.requires.row c.index.result.now c.index.ensures c.args.i c.requires.place,
    )

pub set-requires : goal.set-requires
set-requires g c =
    let i = c.self.inside in
    omega (
      arith,
      entry_fits i.block i.heads.items i.used c.self.invariant _
          (seen_rows i.block i.heads.items _ c.self.view_is) c.args.row
          c.requires.row c.index.result.now c.index.ensures c.args.i c.requires.place,
    )
