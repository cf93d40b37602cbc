use Rattle.std.proofs.Common.{◌≡◌, Some, refl, ap}
use Rattle.std.specs.Prelude.{slice_get}
use Rattle.std.proofs.lemmas.Option.{slice_get_past, slice_get_read}
use Rattle.clauses.specs.Heads.{head_of}
use Rattle.clauses.proofs.Zipped.{seconds-zipped}
use Rattle.clauses.proofs.heads.Heads.is_live.Goals as goal

pub returns-in-Some : goal.returns-in-Some
returns-in-Some c =
    let found = rw c.deref.ensures.value at c.in-Some.ensures.lookup in
    let at : slice_get c.self.inside.live.items c.args.at ≡ Some c.in-Some.live.now =
    slice_get_read _ _ _ _ refl found.3.0 found.1 in
    rw (
      ← c.self.view_is,
      seconds-zipped head_of (λ h. h.live) (λ s b. refl) _ _ c.self.invariant,
      at,
    ) (λ t. ap Some t, λ e. cc)

pub returns-in-None : goal.returns-in-None
returns-in-None c =
    let found = rw c.deref.ensures.value at c.in-None.ensures.lookup in
    rw (
      ← c.self.view_is,
      seconds-zipped head_of (λ h. h.live) (λ s b. refl) _ _ c.self.invariant,
      slice_get_past _ _ found.3,
    ) (λ f. cc, λ e. cc)
