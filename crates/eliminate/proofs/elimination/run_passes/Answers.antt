-- What each pass leaves is a simplified form, and what the last one leaves is a result.
use Rattle.std.proofs.Common.{◌≡◌, true, sym, subst, inl, inr}
use Rattle.std.specs.Prelude.{[], Contains}
use Rattle.std.proofs.lemmas.Bool.{cases_Bool}
use Rattle.std.proofs.lemmas.Result.{IfOk-weaker, on_ok_weaker, on_err_weaker}
use Rattle.clauses.specs.Slots.{Slots, live_clauses}
use Rattle.eliminate.specs.Variables.{IsSimplifierOver, LeavesLogOver}
use Rattle.lrat_log.proofs.Laws.{when_err}
use Rattle.eliminate.proofs.elimination.run_passes.Given.{Over}
use Rattle.eliminate.proofs.elimination.run_passes.Goals as goal
use Rattle.eliminate.proofs.elimination.run_passes.Goals.{In_ok-propagate_units, In_ok-simplify}

propagated : (g : Over) (c : In_ok-propagate_units g)
    → IsSimplifierOver c.args.frozen.now c.propagate_units.new.simplifier
    c.propagate_units.new.store.slots (g.S.Sink.lines c.propagate_units.new.sink)
propagated g c =
    let s = c.requires.simplified in
    (s.0, s.1, c.in_ok-propagate_units.ensures.passes s.0 s.2)

simplified : (g : Over) (c : In_ok-simplify g)
    → IsSimplifierOver c.args.frozen.now c.simplify.new.simplifier c.simplify.new.store.slots
    (g.S.Sink.lines c.simplify.new.sink)
simplified g c =
    let s = propagated g (goal.at.In_ok-simplify g c).In_ok-propagate_units in
    (s.0, s.1, c.in_ok-simplify.ensures.passes s.0 s.1 s.2)

pub propagate_units-requires : goal.propagate_units-requires
propagate_units-requires g c = record {
  simplified = (c.requires.simplified.0, c.requires.simplified.2);
  going = c.requires.going;
}

pub simplify-requires : goal.simplify-requires
simplify-requires g c = propagated g (goal.at.simplify-requires g c).In_ok-propagate_units

pub define_where_open-requires : goal.define_where_open-requires
define_where_open-requires g c =
    simplified g (goal.at.define_where_open-requires g c).In_ok-simplify

pub returns-in_err-propagate_units-clause-err : goal.returns-in_err-propagate_units-clause-err
returns-in_err-propagate_units-clause-err g c =
    let leaves : LeavesLogOver c.args.frozen.now c.args.simplifier.now c.args.store.now.slots
    (g.S.Sink.lines c.args.sink.now) (g.S.Sink.lines c.propagate_units.new.sink) =
    λ start same h. c.in_err-propagate_units.ensures.passes start h in
    when_err _ leaves

pub returns-in_err-simplify-clause-err : goal.returns-in_err-simplify-clause-err
returns-in_err-simplify-clause-err g c =
    let leaves : LeavesLogOver c.args.frozen.now c.args.simplifier.now c.args.store.now.slots
    (g.S.Sink.lines c.args.sink.now) (g.S.Sink.lines c.simplify.new.sink) =
    λ start same h. c.in_err-simplify.ensures.passes start same
    (c.in_ok-propagate_units.ensures.passes start h) in
    when_err _ leaves

pub returns-clause-result : goal.returns-clause-result
returns-clause-result g c =
    IfOk-weaker c.define_where_open.result _ _ (λ v ends start same h. ends start same
    (c.in_ok-simplify.ensures.passes start same
    (c.in_ok-propagate_units.ensures.passes start h))) c.define_where_open.ensures.result

pub returns-clause-refuted : goal.returns-clause-refuted
returns-clause-refuted g c =
    let s = simplified g (goal.at.returns-clause-refuted g c).In_ok-simplify in
    let same = c.define_where_open.new.store.slots ≡ c.simplify.new.store.slots in
    on_ok_weaker c.define_where_open.result
    (λ (stays : c.simplify.new.simplifier.is_refuted ≡ true → same) works.
    elim (cases_Bool c.propagate_units.new.simplifier.is_refuted) [
      | inl e ↦
          let refuted = c.in_ok-simplify.ensures.refuted e in
          subst (λ (slots : Slots). Contains (live_clauses slots) []) (sym (stays refuted))
          (s.2.refuted refuted)
      | inr e ↦ absurd (c.in_ok-propagate_units.ensures.refuted e works)
    ]) c.define_where_open.ensures.refuted

pub returns-clause-err : goal.returns-clause-err
returns-clause-err g c =
    on_err_weaker c.define_where_open.result (λ leaves start same h. leaves start same
    (c.in_ok-simplify.ensures.passes start same
    (c.in_ok-propagate_units.ensures.passes start h))) c.define_where_open.ensures.err
