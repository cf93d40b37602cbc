use Rattle.std.proofs.Common.{map, set, Some, ◌∙◌, ap}
use Rattle.std.proofs.lemmas.List.{map-set}
use Rattle.propagate_trail.specs.declared.vardata.VarData.{VarData}
use Rattle.propagate_trail.specs.Vardata.{VarTableState}
use Rattle.propagate_trail.proofs.vardata.VarTable.set.Goals as goal

pub returns-clause-levels : goal.returns-clause-levels
returns-clause-levels c =
    map-set (λ (m : VarData). m.level) c.self.inside.vardata.items c.args.variable _
    ∙ ap (set (map (λ (m : VarData). m.level) c.self.inside.vardata.items) c.args.variable)
    c.new.ensures
    ∙ ap (λ (m : VarTableState). set m.levels c.args.variable (Some c.args.level)) c.self.view_is

pub returns-clause-positions : goal.returns-clause-positions
returns-clause-positions c =
    map-set (λ (m : VarData). m.position) c.self.inside.vardata.items c.args.variable _
    ∙ ap (λ (m : VarTableState). set m.positions c.args.variable c.args.position) c.self.view_is

pub returns-clause-reasons : goal.returns-clause-reasons
returns-clause-reasons c =
    map-set (λ (m : VarData). m.reason) c.self.inside.vardata.items c.args.variable _
    ∙ ap (set (map (λ (m : VarData). m.reason) c.self.inside.vardata.items) c.args.variable)
    c.new-2.ensures
    ∙ ap (λ (m : VarTableState). set m.reasons c.args.variable c.args.reason) c.self.view_is
