-- The ids before the index were put.
use Rattle.std.proofs.Common.{◌∷◌, ◌++◌, [], take}
use Rattle.std.specs.List.{flat_map}
use Rattle.std.specs.Fmt.{decimal}
use Rattle.text.specs.Writing.{PassesOn}
use Rattle.lrat_plain.specs.Names.{renumbered}
use Rattle.lrat_plain.proofs.spelling.put_ids.Given as goal

abbrev pub invariant-loop-id : goal.invariant-loop-id
invariant-loop-id g l =
    PassesOn (g.W.Write.contents l.initial.writer) l.initial.block
    (flat_map (λ i. decimal (renumbered l.names i.1) ++ 32 ∷ []) (take l.id-index l.ids))
    (g.W.Write.contents l.writer) l.block
