-- The names before the index were packed.
use Rattle.std.proofs.Common.{◌≡◌, take}
use Rattle.eliminate_names.proofs.name_list.widened.Given as goal

abbrev pub invariant-loop-name : goal.invariant-loop-name
invariant-loop-name l = l.wide.items ≡ take l.name-index l.names.items
