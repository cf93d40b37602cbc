-- Clauses from outside the log.
use Rattle.std.specs.Prelude.{List, [], ◌∷◌, ◌++◌}
use Rattle.cnf.specs.Literal.{Literal}
use Rattle.lrat_log.specs.Log.{LogLine, axiom_line}
use Rattle.cdcl_search.specs.declared.input.Input.{Input}
use Rattle.cdcl_search.specs.declared.search.Search.{Search}
use Rattle.cdcl_search.specs.Running.{Runs}

-- once its line is written, the search goes on with the clause
abbrev pub TakesAxiom : Search → Search → List Literal → Type 0
TakesAxiom old new c = (p : Input) (ls : List LogLine) → Runs old p ls
    → Runs new p (ls ++ axiom_line c ∷ [])
