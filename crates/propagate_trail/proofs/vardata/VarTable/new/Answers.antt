use Rattle.std.proofs.Common.{◌∙◌, ap, refl}
use Rattle.propagate_trail.specs.Vardata.{var_table_state}
use Rattle.propagate_trail.proofs.Tables.{resized}
use Rattle.propagate_trail.proofs.VarTables.{vardata-replicate}
use Rattle.propagate_trail.proofs.vardata.VarTable.new.Goals as goal

pub returns : goal.returns
returns c =
    ap var_table_state
    (resized _ _ c.args.count _ _ c.new-vardata.ensures.items c.new-vardata.ensures.len
    c.in_ok-resize.ensures.items)
    ∙ vardata-replicate c.args.count _ c.new.ensures refl c.new-2.ensures
