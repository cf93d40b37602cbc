-- What holds of the value in a `Some`.
use Rattle.std.proofs.Common.{ℕ, Option, Some, None}
use Rattle.std.specs.Prelude.{IfSome}

pub some_weaker : (P Q : ℕ → Type 0) (o : Option ℕ) → ((r : ℕ) → P r → Q r) → IfSome o P
    → IfSome o Q
some_weaker P Q None f h = h
some_weaker P Q (Some r) f h = f r h
