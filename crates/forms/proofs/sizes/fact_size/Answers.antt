use Rattle.std.proofs.Common.{refl}
use Rattle.forms.proofs.sizes.fact_size.Goals as goal

pub returns-in_err-find : goal.returns-in_err-find
returns-in_err-find g c p =
    let e = c.in_err-find.ensures p in
    rw (c.if-fact.true, e) c.from_residual.ensures

pub returns-in_ok-find : goal.returns-in_ok-find
returns-in_ok-find g c p =
    let e = c.in_ok-find.ensures p in
    let n = c.numbered_size.ensures p in
    rw (c.if-fact.true, e, n) refl
