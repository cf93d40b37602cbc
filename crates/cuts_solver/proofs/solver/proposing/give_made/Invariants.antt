-- The search goes on with the clauses that the engine has, and those that are left come then.
use Rattle.std.proofs.Common.{◌≡◌, ◌≤◌, List, ◌++◌, map}
use Rattle.std.specs.List.{AllByRecursion}
use Rattle.lrat_log.specs.Log.{LogLine, axiom_line}
use Rattle.cdcl_search.specs.Running.{Runs}
use Rattle.cuts_log.specs.Logs.{lines_seen}
use Rattle.cuts_log.specs.Made.{IsMadeClause}
use Rattle.cuts_solver.proofs.solver.proposing.give_made.Given as goal

abbrev pub invariant-loop-clause : goal.invariant-loop-clause
invariant-loop-clause g l = (front : List LogLine) × Runs l.search l.input front
    × (lines_seen l.log ≡ front ++ map axiom_line l.clause-iterator)
    × AllByRecursion (IsMadeClause (l.log).standing.forms.variables) l.clause-iterator
    × ((l.log).standing.forms.variables ≤ (l.search.engine).variables)
