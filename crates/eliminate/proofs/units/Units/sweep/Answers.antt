-- Clause after clause is met.
use Rattle.std.proofs.Common.{◌≡◌, inl, inr, refl, sym, ◌∙◌, ap, subst, arith}
use Rattle.std.proofs.lemmas.Bool.{both_ways, cases_lt, false≢true, true≢false}
use Rattle.std.proofs.lemmas.Result.{MatchResult-from_err}
use Rattle.clauses.specs.Slots.{Slots, clause_at}
use Rattle.eliminate.specs.declared.units.Units.{Units}
use Rattle.eliminate.specs.Units.{IsSettled}
use Rattle.eliminate.proofs.Propagating.{propagates_nothing, still_propagating, propagates_more}
use Rattle.eliminate.proofs.Propagating.{leaves_later}
use Rattle.clauses.proofs.Laws.{live_within}
use Rattle.eliminate.proofs.units.Units.sweep.Goals as goal
use Rattle.eliminate.proofs.units.Units.sweep.Goals.{then-asked, else-asked}

pub loop-place-init : goal.loop-place-init
loop-place-init g c = record {
  propagated = propagates_nothing _ _ _ _ c.requires.units;
  going = c.requires.is_open.going;
  settled = λ unasked. (refl, refl, λ r d lt at. absurd (omega arith));
  progress = λ e. absurd (false≢true e);
}

pub meet_at-requires : goal.meet_at-requires
meet_at-requires g c =
    still_propagating _ _ _ _ _ _ _ _ c.loop-place.invariant.propagated c.requires
    c.loop-place.invariant.going

pub returns-in_err-asked-clause-moves : goal.returns-in_err-asked-clause-moves
returns-in_err-asked-clause-moves g c =
    MatchResult-from_err _ _ _ c.from_residual.ensures.0 (λ _.
    leaves_later _ _ _ _ _ _ _ _ c.loop-place.invariant.propagated _
    c.in_err-asked.ensures.moves)

pub returns-then-simplifier-clause-moves : goal.returns-then-simplifier-clause-moves
returns-then-simplifier-clause-moves g c =
    propagates_more _ _ _ _ _ _ _ _ c.loop-place.invariant.propagated c.loop-place.invariant.going _
    _ _ _ c.in_ok-asked.ensures.moves

pub returns-then-simplifier-clause-settled : goal.returns-then-simplifier-clause-settled
returns-then-simplifier-clause-settled g c unasked = absurd (true≢false unasked)

pub returns-then-simplifier-clause-progress : goal.returns-then-simplifier-clause-progress
returns-then-simplifier-clause-progress g c asked works =
    absurd (both_ways _ works c.if-simplifier.true)

pub loop-place-preserved : goal.loop-place-preserved
loop-place-preserved g c =
    let first : Units = c.args.self.now in
    let slots : Slots = c.args.store.now.slots in
    let i = c.loop-place.place in
    let made = c.in_ok-asked.ensures.moves.units c.if-simplifier.false in
    record {
      propagated =
          propagates_more _ _ _ _ _ _ _ _ c.loop-place.invariant.propagated
          c.loop-place.invariant.going _ _ _ _ c.in_ok-asked.ensures.moves;
      going = c.if-simplifier.false;
      settled = λ unasked. elim c.if-asked.branch [
        | then-asked w ↦ absurd (both_ways _ unasked w.found-is)
        | else-asked w ↦
            let s = c.loop-place.invariant.settled (sym w.found-is ∙ unasked) in
            let m = c.in_ok-asked.ensures.settled w.if-asked.false in (
              m.1 ∙ s.0,
              m.2 ∙ s.1,
              λ r d lt at. elim (cases_lt r i) as (λ _. IsSettled first.trail.items d) [
                | inl before ↦ s.2 r d before at
                | inr here ↦
                    let same : i ≡ r = omega arith in
                    subst (λ (v : Units). IsSettled v.trail.items d) s.0
                    (m.3 d (ap (λ (xs : Slots). clause_at xs i) s.1 ∙ ap (clause_at slots) same
                    ∙ at))
              ],
            )
      ];
      progress = λ asked. elim c.if-asked.branch [
        | then-asked w ↦ let less =
            c.in_ok-asked.ensures.progress w.if-asked.true c.if-simplifier.false in let few =
            (c.loop-place.invariant.propagated.units c.loop-place.invariant.going).fewer in
            omega arith
        | else-asked w ↦ let less = c.loop-place.invariant.progress (sym w.found-is ∙ asked) in
            let few = made.fewer in omega arith
      ];
    }

pub returns-clause-moves : goal.returns-clause-moves
returns-clause-moves g c = c.loop-place.invariant.propagated

pub returns-clause-settled : goal.returns-clause-settled
returns-clause-settled g c unasked =
    let s = c.loop-place.invariant.settled unasked in (
      c.loop-place.invariant.going,
      λ r d at. s.2 r d (let lt = live_within c.args.store.now.slots r d at in omega arith) at,
    )

pub returns-clause-progress : goal.returns-clause-progress
returns-clause-progress g c asked works = c.loop-place.invariant.progress asked
