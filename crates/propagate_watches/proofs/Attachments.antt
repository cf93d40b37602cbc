-- A table in which one attachment is set.
use Rattle.std.proofs.Common.{◌≡◌, ◌≢◌, ℕ, ◌<◌, List, length, set}
use Rattle.std.proofs.lemmas.List.{get_or-set_same, get_or-set_other}
use Rattle.propagate_watches.specs.declared.table.Attachment.{Attachment}
use Rattle.propagate_watches.specs.declared.table.Attachment.TheVariants.{Detached}
use Rattle.propagate_watches.specs.Table.{attachment_in}

pub attachment_set_other : (t : List Attachment) (r q : ℕ) (p : Attachment) → q ≢ r
    → attachment_in (set t r p) q ≡ attachment_in t q
attachment_set_other t r q p ne = get_or-set_other t r q p Detached ne

pub attachment_set_same : (t : List Attachment) (r : ℕ) (p : Attachment) → r < length t
    → attachment_in (set t r p) r ≡ p
attachment_set_same t r p lt = get_or-set_same t r p Detached lt
