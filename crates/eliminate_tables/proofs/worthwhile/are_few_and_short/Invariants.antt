-- The clauses so far are short.
use Rattle.std.proofs.Common.{◌≡◌, true, take, length}
use Rattle.std.specs.Prelude.{nat_le}
use Rattle.std.specs.List.{list_all}
use Rattle.clauses.specs.Slots.{clauses_under}
use Rattle.eliminate_tables.proofs.worthwhile.are_few_and_short.Given as goal

abbrev pub invariant-loop-reference : goal.invariant-loop-reference
invariant-loop-reference l =
    list_all (λ c. nat_le (length c) 100)
    (take l.reference-index (clauses_under l.store.slots l.references)) ≡ true
