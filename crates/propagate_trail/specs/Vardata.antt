-- The levels, the positions and the reasons of all variables.
use Rattle.std.specs.Prelude.{ℕ, List, map, Option}
use Rattle.clauses.specs.Slots.{Renaming}
use Rattle.propagate_trail.specs.declared.vardata.VarData.{VarData}
use Rattle.propagate_trail.specs.Renames.{named_reason}

pub record VarTableState : Type 0 where
  pub levels : List (Option ℕ)
  pub positions : List ℕ
  pub reasons : List (Option ℕ)

abbrev pub var_table_state : List VarData → VarTableState
var_table_state vardata = record {
  levels = map (λ m. m.level) vardata;
  positions =
      map (λ m. m.position) vardata;
  reasons = map (λ m. m.reason) vardata;
}

abbrev pub named_var_data : Renaming → VarData → VarData
named_var_data moves m = record m { reason = named_reason moves m.reason }
