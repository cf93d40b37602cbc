use Rattle.std.proofs.Common.{◌≡◌, ◌+◌, ◌<◌, true, length, get_or, sym, ap, subst, ◌∙◌, arith}
use Rattle.std.specs.Prelude.{IfNone}
use Rattle.std.specs.List.{AllByRecursion}
use Rattle.std.proofs.lemmas.List.{length-append, length-map}
use Rattle.std.proofs.lemmas.Result.{IfOk-from_err}
use Rattle.cnf.specs.Literal.{index_of, negation}
use Rattle.cnf.specs.Clause.{contains_literal}
use Rattle.cnf.proofs.Laws.{negation_twice}
use Rattle.propagate_watches.specs.Pool.{row_at}
use Rattle.propagate_trail.specs.Trail.{Assigned, literals_of}
use Rattle.propagate_trail.proofs.Laws.{contains_at}
use Rattle.propagate.specs.Fits.{Fits}
use Rattle.propagate.specs.Steps.{Continues, AreTrueWaiting, IsTrueEntry, FindsConflict}
use Rattle.propagate.proofs.Continuing.{goes_on_then, continues_progress}
use Rattle.propagate.proofs.Completing.{complete, fits_advance, grown_at}
use Rattle.propagate.proofs.engine.Engine.look_at_queue.Goals as goal

pub loop-falsified-preserved : goal.loop-falsified-preserved
loop-falsified-preserved c =
    let slots = c.args.store.now.slots in
    let old = c.loop-falsified.self in
    let mid = c.look_at_row.new.self in
    let w = c.in-Some.falsified in
    let f = c.in_ok-conflict.ensures in
    let g = f.goes_on.continues in
    let s = c.in-Some.ensures in
    let long : length mid.trail ≡ length old.trail + length g.more =
    ap length g.grown ∙ length-append old.trail g.more in
    let lt : mid.watches.qhead < length mid.trail = let e = f.qhead in let b = s.0 in omega arith in
    let row =
    subst (λ o. IfNone o (AllByRecursion (IsTrueEntry slots (literals_of mid.trail))
    (row_at mid.watches.rows (index_of w)))) c.in_default-2.is f.done in
    let at =
    grown_at old.trail mid.trail g.more old.watches.qhead mid.watches.qhead w w g.grown
    f.qhead s.0 s.3 in
    let fits : Fits c.advance.new.self slots =
    subst (λ e. Fits e slots) (sym c.advance.ensures)
    (fits_advance mid slots w w lt at row f.goes_on.fits) in
    record {
      goes_on =
          goes_on_then slots c.args.self.now mid c.advance.new.self
          (goes_on_then slots c.args.self.now old mid c.loop-falsified.invariant.goes_on f.goes_on)
          (record {
            continues = subst (Continues mid) (sym c.advance.ensures)
                (continues_progress mid mid.watches.stable_qhead (mid.watches.qhead + 1));
            fits = fits;
          });
      waiting = subst (AreTrueWaiting slots) (sym c.advance.ensures) f.waiting;
    }

pub returns-clause-settles : goal.returns-clause-settles
returns-clause-settles c = record {
  conflict = tt;
  fixpoint =
      complete c.loop-falsified.self c.args.store.now.slots c.in_default.ensures
      c.loop-falsified.invariant.waiting c.loop-falsified.invariant.goes_on.fits;
}

-- the literal that became true is on the trail
pub look_at_row-requires-clause-falsified : goal.look_at_row-requires-clause-falsified
look_at_row-requires-clause-falsified c =
    let s = c.in-Some.ensures in
    let T = c.loop-falsified.self.trail in
    let q = c.loop-falsified.self.watches.qhead in
    let w = c.in-Some.falsified in
    let lt = s.0 in
    let long = length-map T (λ (a : Assigned). a.literal) in
    subst (λ l. contains_literal l (literals_of T) ≡ true)
    (sym (ap negation s.3 ∙ negation_twice (get_or (literals_of T) q w)))
    (contains_at (literals_of T) q w (omega arith))

pub returns-in_err-conflict-clause-goes_on : goal.returns-in_err-conflict-clause-goes_on
returns-in_err-conflict-clause-goes_on c =
    goes_on_then c.args.store.now.slots c.args.self.now c.loop-falsified.self
    c.look_at_row.new.self c.loop-falsified.invariant.goes_on c.in_err-conflict.ensures.goes_on

pub returns-in_err-conflict-clause-settles : goal.returns-in_err-conflict-clause-settles
returns-in_err-conflict-clause-settles c =
    IfOk-from_err c.from_residual.result _ c.from_residual.ensures.0

pub returns-in-Some-2-clause-goes_on : goal.returns-in-Some-2-clause-goes_on
returns-in-Some-2-clause-goes_on c =
    goes_on_then c.args.store.now.slots c.args.self.now c.loop-falsified.self
    c.look_at_row.new.self c.loop-falsified.invariant.goes_on c.in_ok-conflict.ensures.goes_on

pub returns-in-Some-2-clause-settles : goal.returns-in-Some-2-clause-settles
returns-in-Some-2-clause-settles c = record {
  conflict = subst (FindsConflict c.args.store.now.slots c.look_at_row.new.self) c.in-Some-2.is
      c.in_ok-conflict.ensures.conflict;
  fixpoint = tt;
}
