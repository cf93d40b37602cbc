-- The bits so far, before those of the digits that are left, are all.
use Rattle.std.proofs.Common.{◌≡◌, Bool, List, ◌++◌, drop, Option, Some, None}
use Rattle.lrat_result.specs.Result.{bits_on}
use Rattle.lrat_result.proofs.result.bits_at.Given as goal

-- these bits before those that come
abbrev pub with_front : List Bool → Option (List Bool) → Option (List Bool)
with_front xs None = None
with_front xs (Some ys) = Some (xs ++ ys)

abbrev pub invariant-loop-digit : goal.invariant-loop-digit
invariant-loop-digit l =
    bits_on l.digits ≡ with_front l.bits.items (bits_on (drop l.digit-index l.digits))
