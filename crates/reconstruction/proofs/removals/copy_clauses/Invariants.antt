-- The clauses so far were copied.
use Rattle.std.proofs.Common.{take}
use Rattle.reconstruction.specs.Flat.{AddsClauses}
use Rattle.clauses.specs.Slots.{clauses_under}
use Rattle.reconstruction.proofs.removals.copy_clauses.Given as goal

abbrev pub invariant-loop-reference : goal.invariant-loop-reference
invariant-loop-reference l =
    AddsClauses l.fn.pieces.items l.pieces.items l.fn.literals.items l.literals.items
    (clauses_under l.store.slots (take l.reference-index l.references))
