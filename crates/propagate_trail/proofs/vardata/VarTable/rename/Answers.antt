use Rattle.std.proofs.Common.{◌≡◌, map, length, ◌∙◌, ap, arith}
use Rattle.std.proofs.lemmas.List.{with_items_is}
use Rattle.propagate_trail.specs.declared.vardata.VarData.{VarData}
use Rattle.propagate_trail.specs.Renames.{named_reason}
use Rattle.propagate_trail.specs.Vardata.{VarTableState, named_var_data}
use Rattle.propagate_trail.proofs.VarTables.{levels_named, positions_named, reasons_named}
use Rattle.propagate_trail.proofs.vardata.VarTable.rename.Goals as goal

pub returns-clause-levels : goal.returns-clause-levels
returns-clause-levels c =
    let i = c.self.inside in
    let long : length c.rename_vardata.new.vardata ≡ i.vardata.len =
    omega (arith, c.rename_vardata.auto.vardata, c.deref_mut.ensures.len) in
    ap (map (λ (m : VarData). m.level)) (with_items_is i.vardata c.rename_vardata.new.vardata long
    ∙ c.rename_vardata.ensures
    ∙ ap (map (named_var_data c.args.moves.now)) c.deref_mut.ensures.value)
    ∙ levels_named c.args.moves.now i.vardata.items
    ∙ ap (λ (m : VarTableState). m.levels) c.self.view_is

pub returns-clause-positions : goal.returns-clause-positions
returns-clause-positions c =
    let i = c.self.inside in
    let long : length c.rename_vardata.new.vardata ≡ i.vardata.len =
    omega (arith, c.rename_vardata.auto.vardata, c.deref_mut.ensures.len) in
    ap (map (λ (m : VarData). m.position))
    (with_items_is i.vardata c.rename_vardata.new.vardata long ∙ c.rename_vardata.ensures
    ∙ ap (map (named_var_data c.args.moves.now)) c.deref_mut.ensures.value)
    ∙ positions_named c.args.moves.now i.vardata.items
    ∙ ap (λ (m : VarTableState). m.positions) c.self.view_is

pub returns-clause-reasons : goal.returns-clause-reasons
returns-clause-reasons c =
    let i = c.self.inside in
    let long : length c.rename_vardata.new.vardata ≡ i.vardata.len =
    omega (arith, c.rename_vardata.auto.vardata, c.deref_mut.ensures.len) in
    ap (map (λ (m : VarData). m.reason)) (with_items_is i.vardata c.rename_vardata.new.vardata long
    ∙ c.rename_vardata.ensures
    ∙ ap (map (named_var_data c.args.moves.now)) c.deref_mut.ensures.value)
    ∙ reasons_named c.args.moves.now i.vardata.items
    ∙ ap (λ (m : VarTableState). map (named_reason c.args.moves.now) m.reasons) c.self.view_is
