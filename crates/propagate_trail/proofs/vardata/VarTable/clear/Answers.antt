use Rattle.std.proofs.Common.{map, set, None, ◌∙◌, ap}
use Rattle.std.proofs.lemmas.List.{map-set}
use Rattle.std.proofs.Math.Seq.{map-set_same}
use Rattle.propagate_trail.specs.declared.vardata.VarData.{VarData}
use Rattle.propagate_trail.specs.Vardata.{VarTableState}
use Rattle.propagate_trail.proofs.vardata.VarTable.clear.Goals as goal

pub returns-clause-levels : goal.returns-clause-levels
returns-clause-levels c =
    map-set (λ (m : VarData). m.level) c.self.inside.vardata.items c.args.variable _
    ∙ ap (set (map (λ (m : VarData). m.level) c.self.inside.vardata.items) c.args.variable)
    c.new.ensures
    ∙ ap (λ (m : VarTableState). set m.levels c.args.variable None) c.self.view_is

pub returns-clause-positions : goal.returns-clause-positions
returns-clause-positions c =
    map-set_same (λ (m : VarData). m.position) c.self.inside.vardata.items c.args.variable _ _
    (ap (λ (m : VarData). m.position) c.index_mut.ensures.value)
    ∙ ap (λ (m : VarTableState). m.positions) c.self.view_is

pub returns-clause-reasons : goal.returns-clause-reasons
returns-clause-reasons c =
    map-set_same (λ (m : VarData). m.reason) c.self.inside.vardata.items c.args.variable _ _
    (ap (λ (m : VarData). m.reason) c.index_mut.ensures.value)
    ∙ ap (λ (m : VarTableState). m.reasons) c.self.view_is
