use Rattle.std.proofs.Common.{◌≡◌, ◌≢◌, true, false, Some, ◌⊎◌, refl, sym, ap, subst}
use Rattle.std.specs.Prelude.{All}
use Rattle.cnf.specs.Clause.{contains_literal}
use Rattle.clauses.specs.Slots.{clause_at}
use Rattle.propagate_watches.specs.declared.table.Attachment.TheVariants.{Watching}
use Rattle.propagate_watches.specs.Table.{is_kept}
use Rattle.propagate_trail.specs.Trail.{literals_of, value_in}
use Rattle.propagate.specs.Watches.{EngineState, IsEngine, IsVariable}
use Rattle.propagate.specs.Fits.{Fits}
use Rattle.propagate.specs.Steps.{Continues, GoesOn}
use Rattle.propagate.proofs.Looking.{waiting_within, waiting_variable, waiting_all, all_false_from}
use Rattle.propagate.proofs.Looking.{not_false_value}
use Rattle.propagate.proofs.Stepping.{open_watch}
use Rattle.propagate.proofs.Attaching.{kept_within}
use Rattle.propagate.proofs.Continuing.{continues_attachment}
use Rattle.propagate.proofs.Watching.{fits_watch, made_true}
use Rattle.propagate.proofs.engine.Engine.look_at_clause.Goals as goal
use Rattle.propagate.proofs.engine.Engine.look_at_clause.Goals.{In-Some, After-make_true}

-- a literal was found that is not false
module _ (c : In-Some) where
  one_within : IsVariable c.args.self.now.variables c.in-Some.one
  one_within =
      waiting_variable c.args.self.now c.args.store.now.slots c.args.reference
      c.lits-lits.result.now
      c.in-Some.one c.requires.fits c.requires.waits c.lits-lits.ensures c.in-Some.ensures.0

  one_open : value_in c.args.self.now.trail c.in-Some.one ≢ Some false
  one_open =
      subst (λ T. value_in T c.in-Some.one ≢ Some false)
      (ap (λ (x : EngineState). x.trail) c.self.view_is) c.in-Some.ensures.1

-- the only such literal was made true
module _ (c : After-make_true) where
  only : Fits c.make_true.new.self c.args.store.now.slots
      × (contains_literal c.in-Some.one (literals_of c.make_true.new.self.trail) ≡ true)
      × Continues c.args.self.now c.make_true.new.self
      × (c.make_true.new.self.watches ≡ c.args.self.now.watches)
  only =
      made_true c.args.self.now c.make_true.new.self c.args.store.now.slots c.args.reference
      c.lits-lits.result.now c.in-Some.one (subst IsEngine c.self.view_is c.self.invariant)
      c.requires.fits (ap is_kept c.requires.waits) c.lits-lits.ensures
      (waiting_within c.args.self.now c.args.store.now.slots c.args.reference
      c.lits-lits.result.now c.requires.fits c.requires.waits c.lits-lits.ensures)
      c.in-Some.ensures.0
      (subst (λ T. value_in T c.in-Some.one ≢ Some false)
      (ap (λ (x : EngineState). x.trail) c.self.view_is) c.in-Some.ensures.1)
      (subst (λ T. All (λ k. (k ≡ c.in-Some.one) ⊎ (value_in T k ≡ Some false))
      c.lits-lits.result.now) (ap (λ (x : EngineState). x.trail) c.self.view_is)
      c.in_default-find_other_not_false.ensures)
      c.make_true.ensures

pub find_not_false-requires : goal.find_not_false-requires
find_not_false-requires c =
    waiting_all _ c.args.self.now c.args.store.now.slots c.args.reference c.lits-lits.result.now
    (ap (λ (x : EngineState). x.variables) c.self.view_is) c.requires.fits c.requires.waits
    c.lits-lits.ensures

pub find_other_not_false-requires : goal.find_other_not_false-requires
find_other_not_false-requires c =
    waiting_all _ c.args.self.now c.args.store.now.slots c.args.reference c.lits-lits.result.now
    (ap (λ (x : EngineState). x.variables) c.self.view_is) c.requires.fits c.requires.waits
    c.lits-lits.ensures

pub returns-in_default-clause-done : goal.returns-in_default-clause-done
returns-in_default-clause-done c =
    let T = c.args.self.now.trail in
    let lits = c.lits-lits.result.now in
    let trail = ap (λ (x : EngineState). x.trail) c.self.view_is in (
      ap is_kept c.requires.waits,
      (
        lits,
        c.lits-lits.ensures,
        all_false_from T lits (subst (λ T. All (λ l. value_in T l ≡ Some false) lits) trail
            c.in_default.ensures),
      ),
    )

pub watch-requires-clause-place : goal.watch-requires-clause-place
watch-requires-clause-place c =
    kept_within c.args.self.now.watches.table c.args.reference (ap is_kept c.requires.waits)

pub watch-requires-clause-one : goal.watch-requires-clause-one
watch-requires-clause-one c = one_within (goal.at.watch-requires-clause-one c).In-Some

pub watch-requires-clause-other : goal.watch-requires-clause-other
watch-requires-clause-other c =
    waiting_variable c.args.self.now c.args.store.now.slots c.args.reference c.lits-lits.result.now
    c.in-Some-find_other_not_false.other c.requires.fits c.requires.waits c.lits-lits.ensures
    c.in-Some-find_other_not_false.ensures.0

pub make_true-requires : goal.make_true-requires
make_true-requires c = (one_within (goal.at.make_true-requires c).In-Some).1

pub returns-in-Some-find_other_not_false-clause-goes_on
    : goal.returns-in-Some-find_other_not_false-clause-goes_on
returns-in-Some-find_other_not_false-clause-goes_on c =
    let now = c.args.self.now in
    let slots = c.args.store.now.slots in
    let lits = c.lits-lits.result.now in
    let one = c.in-Some.one in
    let other = c.in-Some-find_other_not_false.other in
    let rest = c.in_ok-watch.ensures.ok.0 in
    let trail = ap (λ (x : EngineState). x.trail) c.self.view_is in
    let a =
    not_false_value (clause_at slots) now.trail one c.requires.fits.reasons
    (one_open (goal.at.returns-in-Some-find_other_not_false-clause-goes_on c).In-Some) in
    let b =
    not_false_value (clause_at slots) now.trail other c.requires.fits.reasons
    (subst (λ T. value_in T other ≢ Some false) trail c.in-Some-find_other_not_false.ensures.2)
    in
    subst (GoesOn slots now) (sym c.in_ok-watch.ensures.ok.2)
    (record {
      continues =
          continues_attachment now c.args.reference (Watching one other rest) _
          (ap is_kept c.requires.waits) refl (λ e. (cc));
      fits =
          fits_watch now slots c.args.reference lits one other rest
          (subst IsEngine c.self.view_is c.self.invariant) c.requires.fits c.requires.waits
          c.lits-lits.ensures
          (λ e. c.in-Some-find_other_not_false.ensures.1 (sym e))
          (open_watch now lits one c.in-Some.ensures.0 a)
          (open_watch now lits other c.in-Some-find_other_not_false.ensures.0 b)
          c.in_ok-watch.ensures.ok.1;
    })

pub watch_satisfied-requires-clause-fits : goal.watch_satisfied-requires-clause-fits
watch_satisfied-requires-clause-fits c =
    (only (goal.at.watch_satisfied-requires-clause-fits c).After-make_true).0

pub returns-clause-done : goal.returns-clause-done
returns-clause-done c = λ x p l.
    let e : c.lits-lits.result.now ≡ x = cc (c.lits-lits.ensures, l) in (
      c.in-Some.one,
      subst (λ z. contains_literal c.in-Some.one z ≡ true) e c.in-Some.ensures.0,
      subst (λ T. contains_literal c.in-Some.one (literals_of T) ≡ true)
          (sym c.in_ok-watch_satisfied.ensures.trail)
          (only (goal.at.returns-clause-done c).After-make_true).1,
    )
