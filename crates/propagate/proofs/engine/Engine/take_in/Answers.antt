-- A clause finds its watches at once, or waits.
use Rattle.std.proofs.Common.{◌≡◌, ◌≢◌, true, false, List, [], ◌∷◌, ◌++◌, Some, refl, sym, ap}
use Rattle.std.proofs.Common.{subst, ◌∙◌}
use Rattle.std.specs.Prelude.{IfSome}
use Rattle.cnf.specs.Clause.{contains_literal}
use Rattle.cnf.specs.Literal.{Literal, negation}
use Rattle.clauses.specs.Slots.{clause_at}
use Rattle.propagate_watches.specs.declared.table.Attachment.TheVariants.{Waiting, Watching}
use Rattle.propagate_trail.specs.Trail.{Assigned, literals_of, value_in}
use Rattle.propagate.specs.Watches.{EngineState, IsEngine, SetsAttached}
use Rattle.propagate.specs.Fits.{Fits, IsWithin}
use Rattle.propagate.specs.Steps.{entry_of, pushed}
use Rattle.propagate.proofs.Attaching.{fits_attach, sets_kept}
use Rattle.propagate.proofs.Looking.{not_false_value, within_at, within_variable}
use Rattle.propagate.proofs.Stepping.{open_watch}
use Rattle.propagate.proofs.Watching.{fits_watch_new}
use Rattle.propagate.proofs.engine.Engine.take_in.Goals as goal
use Rattle.propagate.proofs.engine.Engine.take_in.Goals.{After-lits-lits}

-- the clause was read
module _ (c : After-lits-lits) where
  within : IsWithin c.args.self.now.variables c.lits-lits.result.now
  within = subst (λ o. IfSome o (IsWithin c.args.self.now.variables)) c.lits-lits.ensures
      c.requires.small

  -- the negation of a literal that is not false is not true
  not_negated : (T : List Assigned) → T ≡ c.args.self.now.trail → (l : Literal)
      → value_in T l ≢ Some false
      → contains_literal (negation l) (literals_of c.args.self.now.trail) ≡ false
  not_negated T same l ne =
      not_false_value (clause_at c.args.store.now.slots) c.args.self.now.trail l
      c.requires.fits.reasons (subst (λ T. value_in T l ≢ Some false) same ne)

pub find_not_false-requires : goal.find_not_false-requires
find_not_false-requires c =
    within_at _ c.args.self.now.variables c.lits-lits.result.now
    (ap (λ (x : EngineState). x.variables) c.self.view_is)
    (within (goal.at.find_not_false-requires c).After-lits-lits)

pub find_other_not_false-requires : goal.find_other_not_false-requires
find_other_not_false-requires c =
    within_at _ c.args.self.now.variables c.lits-lits.result.now
    (ap (λ (x : EngineState). x.variables) c.self.view_is)
    (within (goal.at.find_other_not_false-requires c).After-lits-lits)

pub watch_new-requires-clause-one : goal.watch_new-requires-clause-one
watch_new-requires-clause-one c =
    within_variable c.args.self.now.variables c.lits-lits.result.now c.in-Some.one
    (within (goal.at.watch_new-requires-clause-one c).After-lits-lits) c.in-Some.ensures.0

pub watch_new-requires-clause-other : goal.watch_new-requires-clause-other
watch_new-requires-clause-other c =
    within_variable c.args.self.now.variables c.lits-lits.result.now
    c.in-Some-find_other_not_false.other
    (within (goal.at.watch_new-requires-clause-other c).After-lits-lits)
    c.in-Some-find_other_not_false.ensures.0

pub returns-in-Some-find_other_not_false-clause-attached
    : goal.returns-in-Some-find_other_not_false-clause-attached
returns-in-Some-find_other_not_false-clause-attached c =
    let e = c.args.self.now in
    let r = c.args.reference in
    let one = c.in-Some.one in
    let other = c.in-Some-find_other_not_false.other in
    let ok = c.in_ok-watch_new.ensures.ok in
    let rows = pushed (pushed e.watches.rows one (entry_of r other)) other (entry_of r one) in
    subst (λ x. SetsAttached e x r true) (sym ok.2)
    (sets_kept e r (Watching one other ok.0) rows e.watches.waiting refl)

pub returns-in-Some-find_other_not_false-clause-fits
    : goal.returns-in-Some-find_other_not_false-clause-fits
returns-in-Some-find_other_not_false-clause-fits c =
    let e = c.args.self.now in
    let slots = c.args.store.now.slots in
    let lits = c.lits-lits.result.now in
    let one = c.in-Some.one in
    let other = c.in-Some-find_other_not_false.other in
    let ok = c.in_ok-watch_new.ensures.ok in
    let read = (goal.at.returns-in-Some-find_other_not_false-clause-fits c).After-lits-lits in
    let same = ap (λ (x : EngineState). x.trail) c.self.view_is in
    subst (λ x. Fits x slots) (sym ok.2)
    (fits_watch_new e slots c.args.reference lits one other ok.0
    (subst IsEngine c.self.view_is c.self.invariant) c.requires.fits c.requires.once
    c.lits-lits.ensures (within read)
    (λ e. c.in-Some-find_other_not_false.ensures.1 (sym e))
    (open_watch e lits one c.in-Some.ensures.0
    (not_negated read _ same one c.in-Some.ensures.1))
    (open_watch e lits other c.in-Some-find_other_not_false.ensures.0
    (not_negated read _ same other c.in-Some-find_other_not_false.ensures.2))
    ok.1)

pub drop_satisfied-requires-clause-fits : goal.drop_satisfied-requires-clause-fits
drop_satisfied-requires-clause-fits c =
    let e = c.args.self.now in
    let slots = c.args.store.now.slots in
    let within = subst (λ o. IfSome o (IsWithin e.variables)) c.lits-lits.ensures
    c.requires.small in
    subst (λ x. Fits x slots) (sym c.in_ok-enlist.ensures.ok)
    (fits_attach e slots c.args.reference c.lits-lits.result.now c.requires.once
    c.lits-lits.ensures within c.requires.fits)

pub returns-clause-attached : goal.returns-clause-attached
returns-clause-attached c =
    let e = c.args.self.now in
    let r = c.args.reference in
    let enlisted : SetsAttached e c.enlist.new.self r true =
    subst (λ x. SetsAttached e x r true) (sym c.in_ok-enlist.ensures.ok)
    (sets_kept e r Waiting e.watches.rows (e.watches.waiting ++ r ∷ []) refl) in
    let same = c.drop_satisfied.ensures.goes_on.continues.attached in
    (same r ∙ enlisted.0, λ q ne. same q ∙ enlisted.1 q ne)
