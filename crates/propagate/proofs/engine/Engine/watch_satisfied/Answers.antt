use Rattle.std.proofs.Common.{◌≡◌, true, Some, refl, sym, ap, subst, ◌∙◌}
use Rattle.std.specs.Prelude.{IfSome}
use Rattle.cnf.specs.Clause.{contains_literal}
use Rattle.propagate_watches.specs.declared.table.Attachment.TheVariants.{Watching, Satisfied}
use Rattle.propagate_watches.specs.Table.{is_kept}
use Rattle.propagate_trail.specs.Trail.{level_in, depth_of}
use Rattle.propagate.specs.Watches.{EngineState, IsEngine}
use Rattle.propagate.specs.Steps.{GoesOn}
use Rattle.propagate.proofs.Looking.{waiting_variable, waiting_all}
use Rattle.propagate.proofs.Attaching.{kept_within}
use Rattle.propagate.proofs.Continuing.{continues_attachment}
use Rattle.propagate.proofs.Watching.{fits_watch, fits_satisfied, level_watch, true_watch}
use Rattle.propagate.proofs.engine.Engine.watch_satisfied.Goals as goal
use Rattle.propagate.proofs.engine.Engine.watch_satisfied.Goals.{After-lits-lits}

-- the clause was read
module _ (c : After-lits-lits) where
  member : contains_literal c.args.one c.lits-lits.result.now ≡ true
  member =
      subst (λ o. IfSome o (λ x. contains_literal c.args.one x ≡ true)) c.lits-lits.ensures
      c.requires.member

pub find_other_of_level-requires : goal.find_other_of_level-requires
find_other_of_level-requires c =
    waiting_all _ c.args.self.now c.args.store.now.slots c.args.reference c.lits-lits.result.now
    (ap (λ (x : EngineState). x.variables) c.self.view_is) c.requires.fits c.requires.waits
    c.lits-lits.ensures

pub watch-requires-clause-place : goal.watch-requires-clause-place
watch-requires-clause-place c =
    kept_within c.args.self.now.watches.table c.args.reference (ap is_kept c.requires.waits)

pub watch-requires-clause-one : goal.watch-requires-clause-one
watch-requires-clause-one c =
    waiting_variable c.args.self.now c.args.store.now.slots c.args.reference c.lits-lits.result.now
    c.args.one c.requires.fits c.requires.waits c.lits-lits.ensures
    (member (goal.at.watch-requires-clause-one c).After-lits-lits)

pub watch-requires-clause-other : goal.watch-requires-clause-other
watch-requires-clause-other c =
    waiting_variable c.args.self.now c.args.store.now.slots c.args.reference c.lits-lits.result.now
    c.in-Some.other c.requires.fits c.requires.waits c.lits-lits.ensures c.in-Some.ensures.0

pub returns-in-Some-clause-goes_on : goal.returns-in-Some-clause-goes_on
returns-in-Some-clause-goes_on c =
    let now = c.args.self.now in
    let slots = c.args.store.now.slots in
    let lits = c.lits-lits.result.now in
    let other = c.in-Some.other in
    let rest = c.in_ok-watch.ensures.ok.0 in
    let m = member (goal.at.returns-in-Some-clause-goes_on c).After-lits-lits in
    let trail = ap (λ (x : EngineState). x.trail) c.self.view_is in
    let at : level_in now.trail other.variable ≡ Some (depth_of now.trail) =
    ap (λ T. level_in T other.variable) (sym trail) ∙ c.in-Some.ensures.2
    ∙ ap Some (c.depth-depth.ensures ∙ ap depth_of trail) in
    subst (GoesOn slots now) (sym c.in_ok-watch.ensures.ok.2)
    (record {
      continues =
          continues_attachment now c.args.reference (Watching c.args.one other rest) _
          (ap is_kept c.requires.waits) refl (λ e. (cc));
      fits =
          fits_watch now slots c.args.reference lits c.args.one other rest
          (subst IsEngine c.self.view_is c.self.invariant) c.requires.fits c.requires.waits
          c.lits-lits.ensures
          (λ e. c.in-Some.ensures.1 (sym e))
          (true_watch now slots lits c.args.one c.requires.fits m c.requires.is_true)
          (level_watch now lits c.args.one other m c.requires.is_true c.in-Some.ensures.0 at)
          c.in_ok-watch.ensures.ok.1;
    })

pub returns-then-depth-eq0-clause-goes_on : goal.returns-then-depth-eq0-clause-goes_on
returns-then-depth-eq0-clause-goes_on c =
    let now = c.args.self.now in
    let slots = c.args.store.now.slots in
    let m = member (goal.at.returns-then-depth-eq0-clause-goes_on c).After-lits-lits in
    let trail = ap (λ (x : EngineState). x.trail) c.self.view_is in
    let zero : depth_of now.trail ≡ 0 = sym (c.depth-depth.ensures ∙ ap depth_of trail)
    ∙ c.if-depth-eq0.true in
    subst (GoesOn slots now) (sym c.set_satisfied.ensures)
    (record {
      continues =
          continues_attachment now c.args.reference Satisfied _ (ap is_kept c.requires.waits) refl
          (λ e. (cc));
      fits =
          fits_satisfied now slots c.args.reference c.lits-lits.result.now c.requires.fits
          c.requires.waits c.lits-lits.ensures zero (c.args.one, m, c.requires.is_true);
    })
