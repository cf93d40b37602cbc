use Rattle.std.proofs.Common.{◌≡◌, ◌<◌, ◌∙◌, length, get_or, ap, arith, refl}
use Rattle.std.specs.Prelude.{slice_set}
use Rattle.flat_rows.specs.RowLayout.{no_head}
use Rattle.flat_rows.specs.declared.rows.RowHead.{RowHead}
use Rattle.flat_rows.proofs.RowsLaid.{head_read, laid_moved, roomed_as, rooms_set, row_there}
use Rattle.flat_rows.proofs.RowsLaid.{rows_moved, seen_rooms, seen_rows}
use Rattle.flat_rows.proofs.rows.FlatRows.move_row.Goals as goal

pub invariant_of-self : goal.invariant_of-self
invariant_of-self g c =
    let i = c.self.inside in let laid = c.self.invariant in
    let seen = seen_rows i.block i.heads.items _ c.self.view_is in
    let li : c.args.row < length i.heads.items =
    row_there i.block i.heads.items _ seen c.args.row c.requires in
    let is : c.index.result.now ≡ get_or i.heads.items c.args.row no_head =
    head_read i.block i.heads.items _ seen c.args.row c.requires c.index.result.now
    c.index.ensures in
    let long : c.index.result.now.length ≡ (get_or i.heads.items c.args.row no_head).length =
    ap (λ (r : RowHead). r.length) is in
    laid_moved i.block c.copy_within.new.self i.heads.items i.used laid c.args.row c.args.room _ li
    refl long refl (omega arith) (omega (arith, laid.used_fits)) (omega (arith, laid.used_fits))

pub returns-clause-moved : goal.returns-clause-moved
returns-clause-moved g c _ =
    let i = c.self.inside in let laid = c.self.invariant in
    let seen = seen_rows i.block i.heads.items _ c.self.view_is in
    let li : c.args.row < length i.heads.items =
    row_there i.block i.heads.items _ seen c.args.row c.requires in
    let is : c.index.result.now ≡ get_or i.heads.items c.args.row no_head =
    head_read i.block i.heads.items _ seen c.args.row c.requires c.index.result.now
    c.index.ensures in
    let long : c.index.result.now.length ≡ (get_or i.heads.items c.args.row no_head).length =
    ap (λ (r : RowHead). r.length) is in
    roomed_as _ _ _ _
    (rows_moved i.block c.copy_within.new.self i.heads.items i.used laid c.args.row c.args.room _ li
    refl long refl (omega arith) (omega (arith, laid.used_fits)) (omega (arith, laid.used_fits))
    (λ k d lt. c.copy_within.ensures.kept k d lt)
    (λ k d lt. rw (← is) (c.copy_within.ensures.copied k d (rw is lt))) ∙ seen)
    (rooms_set i.heads.items c.args.row _
    ∙ ap (λ rooms. slice_set rooms c.args.row c.args.room)
    (seen_rooms i.block i.heads.items _ c.self.view_is))

pub index-requires : goal.index-requires
index-requires g c =
    let i = c.self.inside in
    omega (
      arith,
      row_there i.block i.heads.items _ (seen_rows i.block i.heads.items _ c.self.view_is)
          c.args.row c.requires,
    )

-- the row ends where what is in use does, at the latest
pub copy_within-requires-clause-before : goal.copy_within-requires-clause-before
copy_within-requires-clause-before g c =
    let i = c.self.inside in let laid = c.self.invariant in
    let seen = seen_rows i.block i.heads.items _ c.self.view_is in
    let li : c.args.row < length i.heads.items =
    row_there i.block i.heads.items _ seen c.args.row c.requires in
    let is : c.index.result.now ≡ get_or i.heads.items c.args.row no_head =
    head_read i.block i.heads.items _ seen c.args.row c.requires c.index.result.now
    c.index.ensures in
    let start = ap (λ (r : RowHead). r.start) is in
    let long = ap (λ (r : RowHead). r.length) is in
    let filled = laid.filled c.args.row li in
    let inside = laid.inside c.args.row li in
    omega arith

pub copy_within-requires-clause-room : goal.copy_within-requires-clause-room
copy_within-requires-clause-room g c = let fits = c.self.invariant.used_fits in omega arith

pub copy_within-requires-clause-small : goal.copy_within-requires-clause-small
copy_within-requires-clause-small g c = let fits = c.self.invariant.used_fits in omega arith

pub overflow_add-self : goal.overflow_add-self
overflow_add-self g c = let small = c.self.invariant.small in omega arith
