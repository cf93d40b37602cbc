use Rattle.std.proofs.Common.{ap, arith}
use Rattle.flat_rows.specs.declared.rows.RowHead.{RowHead}
use Rattle.flat_rows.proofs.RowsLaid.{head_read, long_row, row_there, seen_rows}
use Rattle.flat_rows.proofs.rows.FlatRows.len.Goals as goal

pub index-requires : goal.index-requires
index-requires g c =
    let i = c.self.inside in
    omega (
      arith,
      row_there i.block i.heads.items _ (seen_rows i.block i.heads.items _ c.self.view_is)
          c.args.row c.requires,
    )

pub returns : goal.returns
returns g c =
    let i = c.self.inside in
    let seen = seen_rows i.block i.heads.items _ c.self.view_is in
    omega (
      arith,
      long_row i.block i.heads.items i.used c.self.invariant _ seen c.args.row c.requires,
      ap (λ (r : RowHead). r.length)
          (head_read i.block i.heads.items _ seen c.args.row c.requires c.index.result.now
          c.index.ensures),
    )
