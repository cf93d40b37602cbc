use Rattle.std.proofs.Common.{◌≡◌, ◌++◌, map, take}
use Rattle.cdcl_search.specs.Invariant.{name_at}
use Rattle.cdcl_search.specs.Hinting.{plain_hints}
use Rattle.cdcl_search.proofs.hints.add_named.Given as goal

abbrev pub invariant-loop-reference : goal.invariant-loop-reference
invariant-loop-reference l =
    l.hints.items ≡ l.initial.hints.items ++ plain_hints
    (map (name_at l.names) (take l.reference-index l.references))
