-- A clause that waits is true at level 0.
use Rattle.std.proofs.Common.{◌≡◌, true, Some, refl, sym, ap, subst, ◌∙◌, arith}
use Rattle.cnf.specs.Clause.{contains_literal}
use Rattle.propagate_watches.specs.declared.table.Attachment.TheVariants.{Satisfied}
use Rattle.propagate_watches.specs.Table.{is_kept}
use Rattle.propagate_trail.specs.Trail.{depth_of, literals_of, value_in}
use Rattle.propagate.specs.Watches.{EngineState}
use Rattle.propagate.specs.Steps.{GoesOn}
use Rattle.propagate.proofs.Looking.{true_value, waiting_all, waiting_variable}
use Rattle.propagate.proofs.Continuing.{continues_attachment}
use Rattle.propagate.proofs.Watching.{fits_satisfied}
use Rattle.propagate.proofs.engine.Engine.drop_satisfied.Goals as goal

pub find_not_false-requires : goal.find_not_false-requires
find_not_false-requires c =
    waiting_all _ c.args.self.now c.args.store.now.slots c.args.reference c.lits-lits.result.now
    (ap (λ (x : EngineState). x.variables) c.self.view_is) c.requires.fits c.requires.waits
    c.lits-lits.ensures

pub is_true-requires : goal.is_true-requires
is_true-requires c =
    let w = waiting_variable c.args.self.now c.args.store.now.slots c.args.reference
    c.lits-lits.result.now c.in-Some.one c.requires.fits c.requires.waits c.lits-lits.ensures
    c.in-Some.ensures.0 in
    let same = ap (λ (x : EngineState). x.variables) c.self.view_is in omega (arith, w.1, same)

pub returns-then-is_true-clause-goes_on : goal.returns-then-is_true-clause-goes_on
returns-then-is_true-clause-goes_on c =
    let now = c.args.self.now in
    let slots = c.args.store.now.slots in
    let trail = ap (λ (x : EngineState). x.trail) c.self.view_is in
    let zero : depth_of now.trail ≡ 0 = sym (c.depth.ensures ∙ ap depth_of trail)
    ∙ omega (arith, c.if-depth-gt0.false) in
    let is_true : contains_literal c.in-Some.one (literals_of now.trail) ≡ true =
    true_value now.trail c.in-Some.one (subst (λ T. value_in T c.in-Some.one ≡ Some true) trail
    (c.is_true.ensures.0 c.if-is_true.true)) in
    subst (GoesOn slots now) (sym c.set_satisfied.ensures)
    (record {
      continues =
          continues_attachment now c.args.reference Satisfied _ (ap is_kept c.requires.waits) refl
          (λ e. (cc));
      fits =
          fits_satisfied now slots c.args.reference c.lits-lits.result.now c.requires.fits
          c.requires.waits c.lits-lits.ensures zero
          (c.in-Some.one, c.in-Some.ensures.0, is_true);
    })
