use Rattle.flat_rows.proofs.RowsLaid.{roomed_as, rooms_none, rows_none}
use Rattle.flat_rows.proofs.rows.FlatRows.new.Goals as goal

pub returns : goal.returns
returns g c =
    rw (c.in_ok-heads.ensures.items_if_clones_equal (λ y q. q))
    (roomed_as _ _ _ _ (rows_none _ c.args.rows) (rooms_none c.args.rows))
