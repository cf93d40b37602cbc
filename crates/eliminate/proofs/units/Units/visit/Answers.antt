-- Clause after clause is visited.
use Rattle.std.proofs.Common.{◌∙◌, refl}
use Rattle.std.proofs.lemmas.Result.{MatchResult-from_err}
use Rattle.eliminate.proofs.Propagating.{propagates_nothing, still_propagating, propagates_more}
use Rattle.eliminate.proofs.Propagating.{leaves_later}
use Rattle.eliminate.proofs.units.Units.visit.Goals as goal

pub loop-at-init : goal.loop-at-init
loop-at-init g c = record {
  next = refl;
  propagated = propagates_nothing _ _ _ _ c.requires.propagating.units;
  going = c.requires.propagating.is_open.going;
}

pub meet-requires-clause-propagating : goal.meet-requires-clause-propagating
meet-requires-clause-propagating g c =
    still_propagating _ _ _ _ _ _ _ _ c.loop-at.invariant.propagated c.requires.propagating
    c.loop-at.invariant.going

pub returns-in_err-meet-clause-moves : goal.returns-in_err-meet-clause-moves
returns-in_err-meet-clause-moves g c =
    MatchResult-from_err _ _ _ c.from_residual.ensures.0 (λ _.
    leaves_later _ _ _ _ _ _ _ _ c.loop-at.invariant.propagated _ c.in_err-meet.ensures.moves)

pub returns-then-simplifier-clause-moves : goal.returns-then-simplifier-clause-moves
returns-then-simplifier-clause-moves g c =
    propagates_more _ _ _ _ _ _ _ _ c.loop-at.invariant.propagated c.loop-at.invariant.going _ _ _ _
    c.in_ok-meet.ensures.moves

pub loop-at-preserved : goal.loop-at-preserved
loop-at-preserved g c = record {
  next = c.meet_false.ensures.same_head ∙ c.loop-at.invariant.next;
  propagated =
      propagates_more _ _ _ _ _ _ _ _ c.loop-at.invariant.propagated c.loop-at.invariant.going _ _ _
      _
      c.in_ok-meet.ensures.moves;
  going = c.if-simplifier.false;
}

pub returns-clause-moves : goal.returns-clause-moves
returns-clause-moves g c = c.loop-at.invariant.propagated
