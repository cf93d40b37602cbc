use Rattle.std.proofs.Common.{◌≡◌, ◌++◌, ap, subst, sym, ◌∙◌, take, drop, length}
use Rattle.std.proofs.Common.{append-nil}
use Rattle.std.proofs.Common.{arith}
use Rattle.std.proofs.lemmas.List.{take_all, drop_all}
use Rattle.lrat_machine.specs.Assumed.{AreValues}
use Rattle.lrat_machine.proofs.assumed.AssumedLits.undo_to.Goals as goal

pub invariant_of-self : goal.invariant_of-self
invariant_of-self c =
    let s = c.self.inside in
    let n = s.variables in
    let new = c.clear.new.values in
    let before : AreValues c.deref_mut.result.now n c.deref.result.now =
    subst (λ v. AreValues v n c.deref.result.now) (sym c.deref_mut.ensures.value)
    (subst (AreValues s.values.items n) (sym c.deref.ensures.value) c.self.invariant) in
    let after = c.clear.ensures n before in
    let long : length new ≡ length s.values.items = after.long ∙ sym c.self.invariant.long in
    let whole : take s.values.len (new ++ drop (length new) s.values.items) ≡ new =
    ap (λ xs. take s.values.len (new ++ xs))
    (drop_all (length new) s.values.items (omega (arith, long)))
    ∙ ap (take s.values.len) (append-nil new)
    ∙ take_all s.values.len new (omega (arith, long, s.values.ok.0)) in
    subst (λ v. AreValues v n c.truncate.new.self.items) (sym whole)
    (subst (AreValues new n) (ap (take c.args.len) c.deref.ensures.value
    ∙ sym c.truncate.ensures.items) after)
