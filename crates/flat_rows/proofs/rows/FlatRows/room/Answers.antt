use Rattle.std.proofs.Common.{◌<◌, ◌∙◌, length, sym, ap, arith}
use Rattle.flat_rows.specs.Rows.{room_at}
use Rattle.flat_rows.specs.declared.rows.RowHead.{RowHead}
use Rattle.flat_rows.proofs.RowsLaid.{head_read, long_row, room_is, row_there, seen_rooms}
use Rattle.flat_rows.proofs.RowsLaid.{seen_rows}
use Rattle.flat_rows.proofs.rows.FlatRows.room.Goals as goal

pub index-requires : goal.index-requires
index-requires g c =
    let i = c.self.inside in
    omega (
      arith,
      row_there i.block i.heads.items _ (seen_rows i.block i.heads.items _ c.self.view_is)
          c.args.row c.requires,
    )

pub returns-clause-room : goal.returns-clause-room
returns-clause-room g c =
    let i = c.self.inside in
    let seen = seen_rows i.block i.heads.items _ c.self.view_is in
    let li : c.args.row < length i.heads.items =
    row_there i.block i.heads.items _ seen c.args.row c.requires in
    ap (λ (r : RowHead). r.room) (head_read i.block i.heads.items _ seen c.args.row c.requires
    c.index.result.now c.index.ensures)
    ∙ sym (room_is i.heads.items c.args.row li)
    ∙ ap (λ rooms. room_at rooms c.args.row) (seen_rooms i.block i.heads.items _ c.self.view_is)

pub returns-clause-within : goal.returns-clause-within
returns-clause-within g c =
    let i = c.self.inside in
    let seen = seen_rows i.block i.heads.items _ c.self.view_is in
    let li : c.args.row < length i.heads.items =
    row_there i.block i.heads.items _ seen c.args.row c.requires in
    omega (
      arith,
      long_row i.block i.heads.items i.used c.self.invariant _ seen c.args.row c.requires,
      c.self.invariant.filled c.args.row li,
      ap (λ (r : RowHead). r.room)
          (head_read i.block i.heads.items _ seen c.args.row c.requires c.index.result.now
          c.index.ensures),
    )
