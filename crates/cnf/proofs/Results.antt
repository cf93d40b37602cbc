-- What a result says where it is known which it is.
use Rattle.std.proofs.Common.{◌≡◌, true, false, Result, Ok, Err}
use Rattle.std.specs.Result.{OnErr, OnOk, is_err}
use Rattle.std.proofs.lemmas.Bool.{true≢false, false≢true}

pub on_err_at : {T F P : Type 0} (r : Result T F) → true ≡ is_err r → OnErr r P → P
on_err_at (Ok x) e h = absurd (true≢false e)
on_err_at (Err d) e h = h

pub on_ok_at : {T F P : Type 0} (r : Result T F) → false ≡ is_err r → OnOk r P → P
on_ok_at (Ok x) e h = h
on_ok_at (Err d) e h = absurd (false≢true e)
