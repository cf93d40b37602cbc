use Rattle.std.proofs.Common.{◌≡◌, [], ◌∷◌, ◌++◌, Some, refl, sym, ◌∙◌, ap, subst}
use Rattle.std.specs.Prelude.{IfSome}
use Rattle.clauses.specs.Slots.{clause_at}
use Rattle.propagate.specs.Watches.{is_attached}
use Rattle.propagate.specs.Fits.{Fits, IsWithin}
use Rattle.propagate.proofs.Laws.{fits_added, added_live, new_is_detached}
use Rattle.propagate_bench.proofs.loading.add.Goals as goal

grown : (c : goal.After-attach-arg-1)
    → c.add.new.self.slots ≡ c.args.store.now.slots ++ Some c.args.lits.now ∷ []
grown c = ap (λ s. s.slots) c.in_ok-reference.ensures.ok

live : (c : goal.After-attach-arg-1) → clause_at c.add.new.self.slots c.in_ok-reference.reference
    ≡ Some c.args.lits.now
live c = ap (λ s. clause_at s c.in_ok-reference.reference) (grown c)
    ∙ added_live c.args.store.now.slots c.args.lits.now c.in_ok-reference.reference
    c.in_ok-reference.ensures.reference

pub attach-requires-clause-fits : goal.attach-requires-clause-fits
attach-requires-clause-fits c =
    subst (Fits c.args.engine.now) (sym (grown c))
    (fits_added c.args.engine.now c.args.store.now.slots c.args.lits.now c.requires.fits)

pub attach-requires-clause-live : goal.attach-requires-clause-live
attach-requires-clause-live c = (c.args.lits.now, live c)

pub attach-requires-clause-small : goal.attach-requires-clause-small
attach-requires-clause-small c =
    let within =
    subst (λ v. IsWithin v c.args.lits.now) (sym c.requires.vars)
    (c.if-not-is_within.ensures refl) in
    subst (λ o. IfSome o (IsWithin c.args.engine.now.variables)) (sym (live c)) within

pub attach-requires-clause-once : goal.attach-requires-clause-once
attach-requires-clause-once c =
    ap (is_attached c.args.engine.now) c.in_ok-reference.ensures.reference
    ∙ new_is_detached c.args.engine.now c.args.store.now.slots c.requires.fits
