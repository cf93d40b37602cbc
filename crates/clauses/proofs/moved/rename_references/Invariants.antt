use Rattle.std.proofs.Common.{◌≡◌, ◌++◌, map, take, drop}
use Rattle.clauses.specs.Moved.{named}
use Rattle.clauses.proofs.moved.rename_references.Given as goal

abbrev pub invariant-loop-reference : goal.invariant-loop-reference
invariant-loop-reference l =
    l.references ≡ map (named l.moves) (take l.reference-index l.initial.references)
    ++ drop l.reference-index l.initial.references
