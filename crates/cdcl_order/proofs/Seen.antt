-- What was seen in two parts was seen at once.
use Rattle.std.proofs.Common.{◌≡◌, List, [], ◌++◌, Option, Some, None, refl, ap}
use Rattle.std.proofs.Common.{append-nil, append_assoc}
use Rattle.cdcl_order.specs.Watch.{Sight, with_seen}

pub with_seen_none : (s : Option (List Sight)) → with_seen [] s ≡ s
with_seen_none None = refl
with_seen_none (Some xs) = ap Some (append-nil xs)

pub with_seen_more : (a b : List Sight) (s : Option (List Sight))
    → with_seen b (with_seen a s) ≡ with_seen (a ++ b) s
with_seen_more a b None = refl
with_seen_more a b (Some xs) = ap Some (append_assoc xs a b)
