-- The formula that is written part by part.
use Rattle.std.specs.Prelude.{Bool, true, false, List, ◌++◌}
use Rattle.std.specs.List.{flat_map}
use Rattle.cnf.specs.Literal.{Literal}
use Rattle.cnf.specs.Formula.{Cnf}
use Rattle.bound.specs.declared.encoding.EncodeFault.{EncodeFault}
use Rattle.bound.specs.declared.encoding.EncodeFault.TheVariants.{Memory, Output}
use Rattle.bound.specs.declared.encoding.Outline.{Outline}
use Rattle.bound.specs.Bound.{kept, cell_clauses}

-- the hard clauses, and what the outline has
abbrev pub outlined : List (List Literal) → Outline → Cnf
outlined hard o = record {
  variables = o.vars;
  clauses = kept hard ++ o.relaxed ++ kept (flat_map cell_clauses o.network.cells) ++ o.comparator;
}

-- why a formula was not written to its end, by whether the writer has failed
abbrev pub fault_by : Bool → EncodeFault
fault_by false = Memory
fault_by true = Output
