use Rattle.std.proofs.Common.{◌≡◌, ◌<◌, ◌≤◌, ◌∙◌, length, get_or, ap, arith, refl}
use Rattle.flat_rows.specs.RowLayout.{no_head}
use Rattle.flat_rows.specs.declared.rows.RowHead.{RowHead}
use Rattle.flat_rows.proofs.RowsLaid.{head_read, long_row, rooms_same, row_there}
use Rattle.flat_rows.proofs.RowsLaid.{rows_truncate, seen_rooms, seen_rows}
use Rattle.flat_rows.proofs.rows.FlatRows.truncate.Goals as goal

pub returns-then-len-index-clause-rows : goal.returns-then-len-index-clause-rows
returns-then-len-index-clause-rows g c =
    let i = c.self.inside in let laid = c.self.invariant in
    let seen = seen_rows i.block i.heads.items _ c.self.view_is in
    let li : c.args.row < length i.heads.items =
    row_there i.block i.heads.items _ seen c.args.row c.requires.row in
    let is : c.index_mut.result.now ≡ get_or i.heads.items c.args.row no_head =
    head_read i.block i.heads.items _ seen c.args.row c.requires.row
    c.index_mut.result.now c.index_mut.ensures.value in
    let lk : c.args.len ≤ (get_or i.heads.items c.args.row no_head).length =
    omega (
      arith,
      long_row i.block i.heads.items i.used laid _ seen c.args.row c.requires.row,
      c.requires.shorter,
    ) in
    rw (← seen) (rows_truncate i.block i.heads.items i.used laid c.args.row c.args.len _
    li (ap (λ (r : RowHead). r.start) is) refl lk)

pub returns-then-len-index-clause-rooms : goal.returns-then-len-index-clause-rooms
returns-then-len-index-clause-rooms g c =
    let i = c.self.inside in
    let seen = seen_rows i.block i.heads.items _ c.self.view_is in
    let li : c.args.row < length i.heads.items =
    row_there i.block i.heads.items _ seen c.args.row c.requires.row in
    let is : c.index_mut.result.now ≡ get_or i.heads.items c.args.row no_head =
    head_read i.block i.heads.items _ seen c.args.row c.requires.row
    c.index_mut.result.now c.index_mut.ensures.value in
    rooms_same i.heads.items c.args.row _ li (ap (λ (r : RowHead). r.room) is)
    ∙ seen_rooms i.block i.heads.items _ c.self.view_is

pub index-requires : goal.index-requires
index-requires g c =
    let i = c.self.inside in
    omega (
      arith,
      row_there i.block i.heads.items _ (seen_rows i.block i.heads.items _ c.self.view_is)
          c.args.row c.requires.row,
    )
