-- What was found of the literals so far that are not marked.
use Rattle.std.proofs.Common.{take}
use Rattle.eliminate_tables.specs.Against.{unmarked}
use Rattle.eliminate_tables.proofs.Lying.{IsOpen}
use Rattle.eliminate_tables.proofs.against.hold_against.Given as goal

abbrev pub invariant-loop-lit : goal.invariant-loop-lit
invariant-loop-lit l = IsOpen l.marks (unmarked l.marks (take l.lit-index l.lits)) l.found
