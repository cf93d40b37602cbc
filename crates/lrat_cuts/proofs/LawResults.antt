-- Results that are one.
use Rattle.std.proofs.Common.{◌≡◌, Result, Ok, Err}

pub ok_same : {X E : Type 0} (x y : X) → (let r : Result X E = Ok x in r ≡ Ok y) → x ≡ y
ok_same x y e = cc

pub err_ok : {X E : Type 0} (f : E) (x : X) → (let r : Result X E = Err f in r ≡ Ok x) → ⊥
err_ok f x e = cc
