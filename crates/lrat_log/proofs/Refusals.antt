-- What holds anyway holds after an error, too.
use Rattle.std.proofs.Common.{Result, Ok, Err, OnErr}

pub when_err : {T E P : Type 0} (r : Result T E) → P → OnErr r P
when_err (Ok x) p = tt
when_err (Err e) p = p
