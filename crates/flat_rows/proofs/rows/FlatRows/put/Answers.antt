use Rattle.std.proofs.Common.{◌≡◌, ◌<◌, ◌≤◌, ◌∙◌, length, get_or, ap, arith, refl}
use Rattle.flat_rows.specs.RowLayout.{no_head}
use Rattle.flat_rows.specs.declared.rows.RowHead.{RowHead}
use Rattle.flat_rows.proofs.RowsLaid.{head_read, long_row, next_fits, room_is, roomed_as}
use Rattle.flat_rows.proofs.RowsLaid.{rooms_same, row_there, rows_put, seen_rooms, seen_rows}
use Rattle.flat_rows.proofs.rows.FlatRows.put.Goals as goal

pub returns-clause-added : goal.returns-clause-added
returns-clause-added g c _ =
    let i = c.self.inside in let laid = c.self.invariant in
    let seen = seen_rows i.block i.heads.items _ c.self.view_is in
    let li : c.args.row < length i.heads.items =
    row_there i.block i.heads.items _ seen c.args.row c.requires in
    let is : c.index.result.now ≡ get_or i.heads.items c.args.row no_head =
    head_read i.block i.heads.items _ seen c.args.row c.requires c.index.result.now
    c.index.ensures in
    let is' : c.index_mut.result.now ≡ get_or i.heads.items c.args.row no_head =
    head_read i.block i.heads.items _ seen c.args.row c.requires c.index_mut.result.now
    c.index_mut.ensures.value in
    let room : (get_or i.heads.items c.args.row no_head).length
    < (get_or i.heads.items c.args.row no_head).room =
    rw (← is) (let f : c.index.result.now.length ≤ c.index.result.now.room = rw is
    (laid.filled c.args.row li) in omega arith) in
    let start : c.index.result.now.start ≡ (get_or i.heads.items c.args.row no_head).start =
    ap (λ (r : RowHead). r.start) is in
    let long : c.index.result.now.length ≡ (get_or i.heads.items c.args.row no_head).length =
    ap (λ (r : RowHead). r.length) is in
    roomed_as _ _ _ _ (rw (c.set.ensures, start, long, ← seen)
    (rows_put i.block i.heads.items i.used laid c.args.row c.args.entry.now _ li room
    (ap (λ (r : RowHead). r.start) is') refl))
    (rooms_same i.heads.items c.args.row _ li (ap (λ (r : RowHead). r.room) is')
    ∙ seen_rooms i.block i.heads.items _ c.self.view_is)

-- the row has as many entries as places
pub returns-then-length-room-clause-full : goal.returns-then-length-room-clause-full
returns-then-length-room-clause-full g c _ =
    let i = c.self.inside in
    let seen = seen_rows i.block i.heads.items _ c.self.view_is in
    let li : c.args.row < length i.heads.items =
    row_there i.block i.heads.items _ seen c.args.row c.requires in
    let is : c.index.result.now ≡ get_or i.heads.items c.args.row no_head =
    head_read i.block i.heads.items _ seen c.args.row c.requires c.index.result.now
    c.index.ensures in
    rw (← seen_rooms i.block i.heads.items _ c.self.view_is) (
    omega (
      arith,
      long_row i.block i.heads.items i.used c.self.invariant _ seen c.args.row c.requires,
      room_is i.heads.items c.args.row li,
      ap (λ (r : RowHead). r.length) is,
      ap (λ (r : RowHead). r.room) is,
    )
    )

pub index-requires : goal.index-requires
index-requires g c =
    let i = c.self.inside in
    omega (
      arith,
      row_there i.block i.heads.items _ (seen_rows i.block i.heads.items _ c.self.view_is)
          c.args.row c.requires,
    )

pub overflow_add-start : goal.overflow_add-start
overflow_add-start g c =
    let i = c.self.inside in
    omega (
      arith,
      next_fits i.block i.heads.items i.used c.self.invariant _
          (seen_rows i.block i.heads.items _ c.self.view_is) c.args.row
          c.requires c.index.result.now c.index.ensures (omega arith),
    )

pub set-requires : goal.set-requires
set-requires g c =
    let i = c.self.inside in
    omega (
      arith,
      next_fits i.block i.heads.items i.used c.self.invariant _
          (seen_rows i.block i.heads.items _ c.self.view_is) c.args.row
          c.requires c.index.result.now c.index.ensures (omega arith),
    )
